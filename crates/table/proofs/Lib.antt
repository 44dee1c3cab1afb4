pub mod Marked
pub mod Fitting
pub mod Accepted
pub mod Answers
pub mod Cases
pub mod Flat

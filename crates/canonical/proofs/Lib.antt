pub mod Renumbered
pub mod SameLaws
pub mod OneOrder
pub mod OneFile
pub mod Arrays
pub mod Inside
pub mod Answers
pub mod Cases

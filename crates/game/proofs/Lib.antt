pub mod Turns
pub mod Questions
pub mod Forced
pub mod Plays
pub mod Strategies
pub mod Theorem
pub mod Cases

pub mod Pairs
pub mod Ranges
pub mod Owners
pub mod Answers
pub mod WrittenTable
pub mod DriveTables
pub mod Cases

pub mod File
pub mod Layout
pub mod Entries
pub mod Check
pub mod Cases
pub mod Statement

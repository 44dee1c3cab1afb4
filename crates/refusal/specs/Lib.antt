pub mod Number
pub mod Rows
pub mod Written
pub mod Statement

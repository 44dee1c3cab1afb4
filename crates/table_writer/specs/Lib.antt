pub mod Written
pub mod Statement

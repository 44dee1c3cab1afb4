pub mod Phase
pub mod Record
pub mod Statement

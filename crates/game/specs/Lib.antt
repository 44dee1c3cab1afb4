pub mod Turns
pub mod Force
pub mod Play
pub mod Cases
pub mod Statement

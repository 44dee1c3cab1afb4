pub mod Rings
pub mod Owner
pub mod Table
pub mod Statement
pub mod Cases

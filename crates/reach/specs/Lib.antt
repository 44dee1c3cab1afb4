pub mod Walk
pub mod Order
pub mod Changing
pub mod Reached
pub mod Found
pub mod Statement

pub mod Parameters
pub mod Function
pub mod Locals
pub mod Lends
pub mod Kit

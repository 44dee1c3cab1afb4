pub mod Transition
pub mod Object
pub mod Encoding

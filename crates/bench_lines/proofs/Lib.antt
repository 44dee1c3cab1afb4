pub mod Fields
pub mod Texts
pub mod LongLines
pub mod Cases

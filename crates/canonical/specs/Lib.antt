pub mod Same
pub mod Canonical
pub mod Statement
pub mod Cases

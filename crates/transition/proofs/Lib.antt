pub mod EncodedCells
pub mod Payloads
pub mod Plans
pub mod Nexts
pub mod Lawful
pub mod NextForms
pub mod WrittenForms

pub mod Phases
pub mod Forms
pub mod Saved

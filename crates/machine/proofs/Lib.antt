pub mod Steps
pub mod Invariant
pub mod Book
pub mod Potential
pub mod Points
pub mod Whole

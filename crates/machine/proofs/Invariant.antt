-- The invariant and the ranges hold after every list of calls: what a step guarantees, what the others rely on, and what is
-- stable under their steps. It uses Steps.
pub mod Rely
pub mod Guarantee
pub mod Stable
pub mod Safety
pub mod Ranges

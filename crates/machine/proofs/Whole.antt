-- The demands on every list of calls: every operation ends within the bound of own steps, and all else that is demanded. It
-- uses every other wing.
pub mod WaitFree
pub mod Demands
pub mod Books

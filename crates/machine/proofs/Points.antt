-- What holds at the points of a run: what is pending, what the cells show at rest and at work, what the next own step does,
-- which step empties an announcement, and whose outcome the cells hold. It uses Steps, Invariant and Book.
pub mod Pending
pub mod NoTrace
pub mod Rest
pub mod MidWork
pub mod OwnSteps
pub mod Emptied
pub mod Opened
pub mod Carried

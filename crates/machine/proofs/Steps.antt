-- What a step does: its effect on the cells, the branch that it takes, the configuration after it, and what a call does.
-- It uses no other wing.
pub mod Effect
pub mod Branch
pub mod Coverage
pub mod Successor
pub mod Calls

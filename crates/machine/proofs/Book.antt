-- The plain book is kept along every list of calls, and a history along which a book is kept is linearizable. It uses Steps
-- and Invariant.
pub mod Related
pub mod Progress
pub mod Entries
pub mod BeforeBooking
pub mod Booked
pub mod Order
pub mod Replay
pub mod Agreement
pub mod Linearization
pub mod Keeping

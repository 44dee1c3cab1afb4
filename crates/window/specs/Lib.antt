pub mod Window
pub mod Written
pub mod Serve
pub mod Line
pub mod Events
pub mod Console
pub mod Statement

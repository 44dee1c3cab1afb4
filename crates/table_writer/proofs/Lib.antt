pub mod Trailers
pub mod ReadsBack

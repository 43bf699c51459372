-- The theorem of a run is about the functions that C and Rust link.
pub mod Steps
pub mod Opens
pub mod Gets
pub mod Sets
pub mod TakesBack
pub mod Moves
pub mod Visits

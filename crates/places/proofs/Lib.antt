-- Why it holds: the laws of places.
pub mod Lows

-- Limits as they are held and drawn.
pub mod Limits

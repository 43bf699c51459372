-- Why it holds: the laws of limits.
pub mod Limits
pub mod Below
pub mod Falling

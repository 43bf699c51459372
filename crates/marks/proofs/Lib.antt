-- Laws of packed marks, by topic.
pub mod Bits
pub mod Puts
pub mod Held

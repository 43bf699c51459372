-- What SET writes, the combined picture with it.
pub mod Combine

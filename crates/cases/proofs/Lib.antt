-- The cases hold, and the other definitions compute.
pub mod Cases
pub mod Computed
pub mod EightBits
pub mod Lines

-- Why SET and TAKE BACK settle what they promise.
pub mod Settling

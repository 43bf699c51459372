-- What the two views combine to.
pub mod Blend

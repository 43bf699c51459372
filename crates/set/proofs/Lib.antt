-- Why SET keeps its promise.
pub mod Setting

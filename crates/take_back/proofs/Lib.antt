-- Why TAKE BACK keeps its promise.
pub mod Taking

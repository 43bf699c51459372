-- Why HOLES keeps its promise.
pub mod Ways

-- Why MOVE keeps its promise.
pub mod Moving

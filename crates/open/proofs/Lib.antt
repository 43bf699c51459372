-- Why OPEN keeps its promise.
pub mod Opening

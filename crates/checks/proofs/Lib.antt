-- Why CHECK reports what the walk finds.
pub mod Ways

-- What the walk finds.
pub mod Walks

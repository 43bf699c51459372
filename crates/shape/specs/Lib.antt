-- The candidate that a shape stands for.
pub mod Shapes

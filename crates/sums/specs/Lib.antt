-- The table of squares, and the combined sample by view.
pub mod Squares
pub mod Sides

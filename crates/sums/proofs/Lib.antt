-- Laws of the table of squares, and of the combined sample by view.
pub mod Tables
pub mod Sides

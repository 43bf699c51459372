-- Places and positions of a row.
pub mod Positions

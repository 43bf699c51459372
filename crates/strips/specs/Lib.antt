-- The trial of a row.
pub mod Strips

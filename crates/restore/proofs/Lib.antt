-- Why saved depths are put back.
pub mod Parts
pub mod Rows

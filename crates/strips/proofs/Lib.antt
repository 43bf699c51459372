-- Why it holds: the laws of a row's trial.
pub mod Candidates
pub mod Positions
pub mod Rows
pub mod Strips

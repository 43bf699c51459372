-- Why it holds: the laws of a row's drawing, by topic.
pub mod Below
pub mod Columns
pub mod Pass
pub mod Wholes

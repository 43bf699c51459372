-- Why it holds: the laws of a committed row, by topic.
pub mod Lent
pub mod Shown
pub mod Drawn
pub mod Edits
pub mod Rows
pub mod Planes

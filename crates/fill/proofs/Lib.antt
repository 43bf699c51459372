-- The laws of lines, rows and rooms.
pub mod Lines
pub mod Rows
pub mod Rooms

-- Records as they are read.
pub mod Taken
pub mod Rows

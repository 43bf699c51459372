-- Packed marks as they are written, and a held row as it is read.
pub mod Puts

-- Why whole planes are drawn and combined right.
pub mod Planes
pub mod Pictures

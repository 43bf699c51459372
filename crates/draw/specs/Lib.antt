-- What is drawn and combined of whole planes.
pub mod Drawn
pub mod Combination

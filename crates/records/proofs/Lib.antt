-- Why rows of words are narrowed to depths.
pub mod Narrowing

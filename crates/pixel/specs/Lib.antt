-- What a pair of neighbouring columns shows.
pub mod Pairs

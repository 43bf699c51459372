-- What is judged by two sums.
pub mod Judged

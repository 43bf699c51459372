-- What is held against rows that are drawn afresh.
pub mod Agree

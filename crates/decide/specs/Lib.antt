-- What GET and SET decide before either of them answers.
pub mod Decided

-- What an exported entry answers.
pub mod Answers

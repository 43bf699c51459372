-- What a caller of the exported functions has and answers.
pub mod Latest
pub mod Answers

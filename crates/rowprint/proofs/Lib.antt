-- Why it holds, by topic.
pub mod Tables
pub mod Shown
pub mod Answers
pub mod Runs

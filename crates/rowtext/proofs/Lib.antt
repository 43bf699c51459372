-- Why it holds, by topic.
pub mod Decimal
pub mod Numbers
pub mod Lines
pub mod Rows
pub mod Lengths
pub mod Entries

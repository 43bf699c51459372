-- What a record saved.
pub mod Saved

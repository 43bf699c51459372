-- What filling all held planes leaves.
pub mod Filled

-- Why joined bits decide.
pub mod Joined

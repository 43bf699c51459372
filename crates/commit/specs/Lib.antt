-- What SET writes of one view.
pub mod Commit

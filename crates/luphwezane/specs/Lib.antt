-- What the exported entries answer.
pub mod Exports

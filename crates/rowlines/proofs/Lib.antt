-- Why the lines are those of the definition.
pub mod Puts

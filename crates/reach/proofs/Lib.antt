-- How far one depth sample can move the total: why the bound holds, and examples that reach it.
pub mod Positions
pub mod Change
pub mod Runs
pub mod Examples
pub mod Held

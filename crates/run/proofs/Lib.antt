-- Term 3, and the runs with one journal: why they hold.
pub mod Steps
pub mod Calls
pub mod Run
pub mod Ledger
pub mod Shared

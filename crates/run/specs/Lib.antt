-- Term 3 of document 01, and the runs with one journal of document 02, card 3; Calls is what both say of a list of calls.
pub mod Calls
pub mod Run
pub mod Shared

-- Document 02, card 4: how far one depth sample can move the total; of a session, of a run, and from what a caller holds.
pub mod Reach
pub mod Runs
pub mod Held

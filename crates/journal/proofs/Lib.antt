-- Why what is written is the new record.
pub mod Records

-- An edit of one row.
pub mod Changes

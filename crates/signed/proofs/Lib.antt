-- Laws at the edge of the signed numbers, by topic.
pub mod Signed
pub mod Limits
pub mod Totals

-- Cases a to m of document 01.
pub mod Cases

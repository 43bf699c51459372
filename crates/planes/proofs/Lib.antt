-- Why it holds: the laws of parts, by topic.
pub mod Entries
pub mod Splices
pub mod Fills
pub mod Paints
pub mod SeenParts
pub mod Views
pub mod Read

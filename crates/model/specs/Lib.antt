-- What a reader must believe, in the order of document 01.
pub mod Lists
pub mod Row
pub mod Views
pub mod Marks
pub mod Combined
pub mod Planes
pub mod Fresh
pub mod Candidates
pub mod Blocks
pub mod Journals
pub mod Span
pub mod Reports
pub mod Refusals
pub mod Replies
pub mod Promises

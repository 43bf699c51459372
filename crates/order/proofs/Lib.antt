-- Why separate edits end alike in every order, and why a SET of the depths that a block has changes nothing.
pub mod Examples
pub mod Separate
pub mod Orders
pub mod NoOp

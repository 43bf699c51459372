-- Document 02, card 10: separate edits end alike in every order, and a SET of the depths that a block has changes nothing.
pub mod Separate
pub mod Orders
pub mod NoOp

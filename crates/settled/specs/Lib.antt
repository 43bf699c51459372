-- What settling leaves.
pub mod Settled

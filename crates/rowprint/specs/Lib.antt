-- What a run promises.
pub mod Run

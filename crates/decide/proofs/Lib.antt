-- Why a decision is what it promises.
pub mod Ways

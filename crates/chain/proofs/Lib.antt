-- Why it holds: the laws of the chain.
pub mod Chains

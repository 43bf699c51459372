-- Parts of a list: replaced, filled by a rule, painted with pixels.
pub mod Parts

-- RENDER's list over numbers.
pub mod Numbers

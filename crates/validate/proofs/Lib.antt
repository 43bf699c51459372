-- Why the tests are those of the model, and what they show.
pub mod Facts
pub mod Numbers

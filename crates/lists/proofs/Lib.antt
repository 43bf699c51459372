-- Why RENDER's tests are those of the model.
pub mod Strips

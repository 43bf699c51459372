-- One row of one view as it is drawn.
pub mod Drawing

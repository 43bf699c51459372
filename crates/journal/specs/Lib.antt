-- Words of a journal, as they are written and read.
pub mod Words

-- What a reader must believe is Format and Promise; Reader says what each step of the reader answers.
pub mod Format
pub mod Promise
pub mod Reader

-- Laws that belong to no one function.
pub mod Moving
pub mod Numbers

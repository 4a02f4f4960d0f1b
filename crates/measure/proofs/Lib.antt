pub mod Numbers
pub mod Measures

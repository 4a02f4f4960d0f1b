-- Laws that belong to no one function.
pub mod Children
pub mod Growth
pub mod Lays
pub mod Steps
pub mod Views
pub mod Whole

-- Laws that belong to no one function.
pub mod Counts
pub mod Positions

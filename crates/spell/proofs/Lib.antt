-- Laws that belong to no one function.
pub mod Puts
pub mod Shorts

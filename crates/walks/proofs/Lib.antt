-- Laws that belong to no one function.
pub mod Good
pub mod Neither
pub mod Walked
pub mod Meets
pub mod Resolves
pub mod Along

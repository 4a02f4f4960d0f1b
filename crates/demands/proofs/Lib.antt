-- Laws that belong to no one function.
pub mod Words
pub mod Rows
pub mod Same
pub mod Reading
pub mod Backs
pub mod Starred
pub mod Demands

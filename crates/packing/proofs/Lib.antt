-- Laws that belong to no one function.
pub mod Packs
pub mod Widths
pub mod Lists
pub mod Same
pub mod Unpacks

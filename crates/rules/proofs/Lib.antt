-- Laws that belong to no one function.
pub mod Levels
pub mod Judged
pub mod Says
pub mod Growth
pub mod Regrow
pub mod Read
pub mod Exact

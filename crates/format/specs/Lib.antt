pub mod Answer
pub mod Head
pub mod Layout
pub mod Refusal
pub mod Starred
pub mod Tree
pub mod Value

pub mod Shape
pub mod Grow
pub mod Obeys

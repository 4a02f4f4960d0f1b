pub mod Inner
pub mod Unwritten
pub mod Written

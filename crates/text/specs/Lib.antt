pub mod Syntax
pub mod Check
pub mod Inner
pub mod Grammar

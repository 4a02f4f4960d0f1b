pub mod Body
pub mod Family
pub mod Members
pub mod Number
pub mod Words
pub mod Inner

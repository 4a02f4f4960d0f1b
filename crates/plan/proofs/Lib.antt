-- Laws that belong to no one function.
pub mod Forms
pub mod Plans
pub mod Owns

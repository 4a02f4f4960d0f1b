-- Laws that belong to no one function.
pub mod Sets
pub mod Zeros
pub mod Tests
pub mod Answers

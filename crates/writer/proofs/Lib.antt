-- Laws that belong to no one function.
pub mod Spelling
pub mod Counting
pub mod Writing
pub mod Trees
pub mod Asks
pub mod Answers

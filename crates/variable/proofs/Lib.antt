pub mod Examples
pub mod Promises
pub mod Variables
pub mod Writes

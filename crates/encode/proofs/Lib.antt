-- Laws that belong to no one function.
pub mod Elsewhere
pub mod Places
pub mod Fronts
pub mod Leaves
pub mod Back
pub mod Again
pub mod Alone
pub mod Alike
pub mod Least
pub mod Shortest
pub mod Worded
pub mod Placed
pub mod Said

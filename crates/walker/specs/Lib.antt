pub mod Walk
pub mod Unmoved

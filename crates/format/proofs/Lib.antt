pub mod Cases
pub mod Heads
pub mod Layouts
pub mod Markers
pub mod Steps
pub mod Values

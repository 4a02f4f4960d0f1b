pub mod Checked
pub mod Inner

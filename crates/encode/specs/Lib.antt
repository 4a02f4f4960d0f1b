pub mod Encode
pub mod Further

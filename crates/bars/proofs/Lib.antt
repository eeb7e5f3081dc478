pub mod Chosen
pub mod Walk
pub mod Bytes

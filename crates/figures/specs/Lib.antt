pub mod Comparison
pub mod Ranges
pub mod Lines

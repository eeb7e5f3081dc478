pub mod Kinds
pub mod Ranges
pub mod Meaning
pub mod Asked

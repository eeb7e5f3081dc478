pub mod Lines
pub mod Slabs
pub mod Rows
pub mod Asked
pub mod Meaning

pub mod Governing
pub mod Beside
pub mod Meaning
pub mod Asked

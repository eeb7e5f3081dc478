pub mod Width
pub mod Places
pub mod Named
pub mod Meaning
pub mod Blank
pub mod Asked

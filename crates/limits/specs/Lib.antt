pub mod Limits
pub mod Places
pub mod Meaning
pub mod Edges
pub mod Asked

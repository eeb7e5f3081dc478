pub mod Digits
pub mod Places
pub mod Meaning
pub mod Edges
pub mod Listed

pub mod Change
pub mod Meaning
pub mod Refusal
pub mod Asked

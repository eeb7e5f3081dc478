pub mod Meaning
pub mod Refusal
pub mod Passes
pub mod Fair
pub mod Asked

pub mod Fields
pub mod Ways
pub mod Plan
pub mod Asked

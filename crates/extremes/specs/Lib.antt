pub mod Extremes
pub mod Asked

pub mod Asked
pub mod LeastThickness

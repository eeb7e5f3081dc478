pub mod Asked
pub mod Moments
pub mod EndTable
pub mod Ratios
pub mod Strips
pub mod Meaning

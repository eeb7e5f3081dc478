pub mod Moments
pub mod EndTable
pub mod Ratios
pub mod Parts
pub mod Signed
pub mod Strips

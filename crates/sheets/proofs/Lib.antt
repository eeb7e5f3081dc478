pub mod Decimals
pub mod Texts
pub mod Cuts
pub mod Writing
pub mod Growing
pub mod Figures

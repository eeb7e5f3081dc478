pub mod Rounding
pub mod Least
pub mod Tests
pub mod Extremes
pub mod Records
pub mod Figures
pub mod Chains

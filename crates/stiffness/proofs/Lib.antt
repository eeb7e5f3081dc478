pub mod Widths
pub mod Stiffness
pub mod ParallelAxis

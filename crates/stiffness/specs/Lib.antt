pub mod Asked
pub mod Sections
pub mod ParallelAxis
pub mod Lines

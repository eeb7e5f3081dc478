pub mod Beams
pub mod ByThree

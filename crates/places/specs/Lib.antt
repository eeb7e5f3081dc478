pub mod Adjoining
pub mod Asked

pub mod Floors
pub mod Slabs
pub mod Filled
pub mod Meaning
pub mod Enough

pub mod Views
pub mod Works
pub mod Record
pub mod Asked
pub mod Meaning

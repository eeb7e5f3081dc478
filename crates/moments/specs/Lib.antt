pub mod Lent
pub mod Tables
pub mod Opening
pub mod Changing
pub mod Mornings
pub mod Meaning
pub mod Asked

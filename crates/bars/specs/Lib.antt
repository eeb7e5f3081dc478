pub mod Widths
pub mod Choice
pub mod Meaning
pub mod Entries
pub mod Asked

pub mod Sheets
pub mod Long
pub mod Kept
pub mod Reading

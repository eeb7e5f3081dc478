pub mod Meaning
pub mod Copy
pub mod Placing
pub mod Alike
pub mod Kept
pub mod Keeps
pub mod Given
pub mod Judging

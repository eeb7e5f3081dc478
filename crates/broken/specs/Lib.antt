pub mod Numbers
pub mod Listing
pub mod Laid
pub mod Meaning
pub mod Answers
pub mod Asked

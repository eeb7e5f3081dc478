pub mod Tests
pub mod Laid
pub mod Members
pub mod Walk
pub mod Order
pub mod Meaning
pub mod Answers
pub mod Most

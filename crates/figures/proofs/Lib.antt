pub mod OneSpan
pub mod Meaning
pub mod Printed

pub mod Accepted
pub mod Meaning
pub mod Filed
pub mod Fair

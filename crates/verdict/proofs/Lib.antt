pub mod Query
pub mod Sum
pub mod Answers

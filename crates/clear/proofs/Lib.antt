pub mod Answers
pub mod Verdict

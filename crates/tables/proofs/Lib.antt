pub mod InLines
pub mod Numbered
pub mod Naming
pub mod Meaning
pub mod Runs

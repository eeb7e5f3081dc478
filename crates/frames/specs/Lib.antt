pub mod Table
pub mod Spans
pub mod Asked

pub mod Spans
pub mod Frames
pub mod Records

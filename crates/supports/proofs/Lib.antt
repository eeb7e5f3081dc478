pub mod Supports
pub mod Faces
pub mod Lines
pub mod Governed
pub mod Besides
pub mod Same
pub mod Meaning
pub mod Kept

pub mod Reading
pub mod Directions
pub mod AtHand

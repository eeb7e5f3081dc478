pub mod AtHand
pub mod Worked
pub mod Ends
pub mod Clear
pub mod Whole
pub mod Fits

pub mod Input
pub mod Sheet

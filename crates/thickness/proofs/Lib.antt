pub mod Thinnest

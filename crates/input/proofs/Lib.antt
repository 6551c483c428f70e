pub mod FirstLine
pub mod Unique

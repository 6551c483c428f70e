pub mod Decides
pub mod Lists

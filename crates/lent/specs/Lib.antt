pub mod LineStep
pub mod Lent
pub mod Kept
pub mod Stream
pub mod Session
pub mod Keep
pub mod Passed

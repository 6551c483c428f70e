pub mod Apart
pub mod Buckets
pub mod Fills
pub mod Looks
pub mod PlaceLaws
pub mod Puts
pub mod Round
pub mod WordLaws

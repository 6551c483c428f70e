pub mod Lengths
pub mod Faults
pub mod Feed
pub mod Round
pub mod Ranged
pub mod BadField
pub mod Unique

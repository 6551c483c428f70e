pub mod Messages
pub mod Room

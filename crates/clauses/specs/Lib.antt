pub mod Answer
pub mod Phone
pub mod Parking
pub mod Parked
pub mod Park

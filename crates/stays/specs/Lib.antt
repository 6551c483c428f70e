pub mod Stays
pub mod Arranged
pub mod ParkTable
pub mod Demand
pub mod Refusing

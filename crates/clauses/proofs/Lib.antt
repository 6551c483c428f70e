pub mod Rows
pub mod ParkingRows
pub mod ParkedRows
pub mod Park
pub mod Unique

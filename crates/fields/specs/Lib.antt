pub mod Parts
pub mod Numbers
pub mod Calls
pub mod Line
pub mod FirstBad
pub mod Round

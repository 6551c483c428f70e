pub mod Members
pub mod Notice
pub mod Reply
pub mod Served
pub mod Runs
pub mod Clause
pub mod Promises

pub mod Found
pub mod Parts
pub mod Starts
pub mod Onward
pub mod Behind
pub mod Controlled

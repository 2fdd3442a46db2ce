pub mod Drivers
pub mod Walks
pub mod Marks
pub mod Writers
pub mod Refused

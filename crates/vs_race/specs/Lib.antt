pub mod Refused
pub mod Stirrers

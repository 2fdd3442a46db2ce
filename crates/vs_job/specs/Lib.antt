pub mod Job
pub mod Bench
pub mod Lines
pub mod Command
pub mod Places
pub mod Paths
pub mod Rows

pub mod DesignText
pub mod Ports
pub mod Places
pub mod Prepared
pub mod Unprepared
pub mod Loaded

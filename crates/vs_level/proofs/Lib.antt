pub mod Apart
pub mod Rings
pub mod Steps
pub mod Growing
pub mod Settling
pub mod Bridge

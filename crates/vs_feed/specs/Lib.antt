pub mod Lanes
pub mod Reading
pub mod Opened
pub mod Fed
pub mod Drive

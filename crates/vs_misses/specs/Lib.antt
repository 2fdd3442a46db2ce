pub mod Missed
pub mod Watch
pub mod Rows
pub mod Kept
pub mod Texts
pub mod Laws

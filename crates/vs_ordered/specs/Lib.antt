pub mod Whole
pub mod Traced

pub mod Counting
pub mod Least
pub mod ByKind
pub mod Marking
pub mod Writing
pub mod Settling
pub mod Checked

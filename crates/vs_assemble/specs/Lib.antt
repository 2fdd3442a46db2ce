pub mod Flags
pub mod Plans
pub mod Runs
pub mod Together
pub mod Copies

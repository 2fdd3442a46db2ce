pub mod Fitting
pub mod Called
pub mod Runs

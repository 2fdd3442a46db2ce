pub mod Telling
pub mod Noting
pub mod AtOnce
pub mod Spreading
pub mod Racing

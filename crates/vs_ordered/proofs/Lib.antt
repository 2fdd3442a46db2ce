pub mod Giving
pub mod Rounds
pub mod Valid
pub mod Same

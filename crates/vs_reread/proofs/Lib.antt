pub mod Taken
pub mod Lines
pub mod Drawn
pub mod Left

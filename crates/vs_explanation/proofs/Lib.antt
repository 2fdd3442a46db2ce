pub mod Added
pub mod Printable
pub mod Waves
pub mod Newlines
pub mod Lines
pub mod HeavySteps
pub mod FilePlaces

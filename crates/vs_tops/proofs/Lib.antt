pub mod Views
pub mod Adding
pub mod Only
pub mod Topless

pub mod Contents
pub mod Putting
pub mod Failing
pub mod Held
pub mod Tells
pub mod Attaching
mod FailingAgain

pub mod Typed
pub mod Laws
pub mod Places
pub mod Weights
pub mod Refused
pub mod Reach
pub mod Functions
pub mod Still

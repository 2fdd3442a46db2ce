pub mod Kernels
pub mod Calls
pub mod Placed
pub mod Kept
pub mod Laws

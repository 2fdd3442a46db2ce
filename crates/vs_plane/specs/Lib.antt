pub mod Bits
pub mod Lanes
pub mod Kernels
pub mod Squares

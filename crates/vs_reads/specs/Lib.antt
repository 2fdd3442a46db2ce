pub mod Footprint
pub mod Kept
pub mod Laws
pub mod Named
pub mod Within

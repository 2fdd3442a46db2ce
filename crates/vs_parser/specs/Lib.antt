pub mod ItemLists
pub mod Parts
pub mod Directions
pub mod Headings
pub mod Functions
pub mod Faults

pub mod Shapes
pub mod Nodes
pub mod Table
pub mod Constants
pub mod Gathered
pub mod Bodies
pub mod Walked
pub mod KeptPlaces

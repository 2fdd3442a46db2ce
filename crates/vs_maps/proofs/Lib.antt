pub mod NameMaps
pub mod NameSets
pub mod PlaceMaps

pub mod Maps
pub mod MapViews
pub mod Sets
pub mod Places
pub mod PlaceViews

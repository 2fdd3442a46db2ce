pub mod Places
pub mod Rounds
pub mod Opens
pub mod Feeds
pub mod Packs

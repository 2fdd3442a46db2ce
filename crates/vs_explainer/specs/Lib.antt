pub mod Heavy
pub mod Joined
pub mod Looks
pub mod Lent
pub mod Told
pub mod Missed

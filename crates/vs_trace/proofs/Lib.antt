pub mod Shown
pub mod SlotLines
pub mod Texts

pub mod Drafts
pub mod Growth
pub mod Cut
pub mod Buildable
pub mod Writable
pub mod Outputs
pub mod Executable
pub mod Items

pub mod Rows
pub mod Fields
pub mod Lent
pub mod Expected
pub mod Controls
pub mod Naming

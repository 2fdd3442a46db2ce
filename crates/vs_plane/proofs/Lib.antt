pub mod WordBits
pub mod AnyBits
pub mod Filling
pub mod SquareTurns
pub mod ColumnBits
pub mod PackedBits

pub mod TextLemmas
pub mod Lengths

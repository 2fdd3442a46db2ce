pub mod Spellings
pub mod Classes
pub mod Strings
pub mod Literals
pub mod Tokens
pub mod Cuts
pub mod LeftOut
pub mod Laws

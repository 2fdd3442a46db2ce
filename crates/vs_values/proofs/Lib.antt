pub mod Lists
pub mod Adding
mod Operators
mod Moved
pub mod Values
pub mod Folding
mod Parts
pub mod Selecting
mod Constants
pub mod Readying
pub mod Renaming
mod Inlined
mod Called
mod Tables
mod Passing
mod Headers
pub mod Binary
pub mod Trees
pub mod Named
mod Shifting
pub mod Environments
pub mod Unary
pub mod Choosing
pub mod Periods
mod Concatenating
mod Places
mod Paying
pub mod Taking
pub mod Wording
pub mod PartWording
mod Multiplying
mod Summed
mod Summing

pub mod Numbers
pub mod Refused
pub mod Accepted
pub mod Answers
pub mod Lent
pub mod Outputs
pub mod Leaving

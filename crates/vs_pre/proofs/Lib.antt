mod Rows
pub mod Tables
pub mod ArgumentEnds
pub mod LineSteps
pub mod NamesFacts
pub mod Filling
pub mod Deep
pub mod Walking
pub mod Valuing
pub mod Tabled
pub mod ReadSteps
pub mod Formals
pub mod AttributeFacts
pub mod SizeFacts
pub mod Kept

pub mod Ascending
pub mod Gathered
pub mod FitKinds
pub mod Tests
pub mod Numbered
pub mod Told
pub mod Table
pub mod ByKind

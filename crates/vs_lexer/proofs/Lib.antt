mod Rows
pub mod Longest
pub mod Runs
pub mod Classes
pub mod TableFacts
pub mod Quotes
pub mod StringFacts
pub mod Signs
pub mod Heads
pub mod Values
pub mod Numbers
pub mod Progress
pub mod PlaneFacts
pub mod Spans
pub mod LongestFacts
pub mod SizedFacts

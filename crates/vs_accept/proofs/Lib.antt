mod Answered
mod Numbered
mod Ordered
mod AlikeDesign
mod Alike
mod Told
mod Judged
pub mod Naming
mod LeftOut

pub mod Pieces
pub mod Directions
pub mod Fronts
pub mod Blocks
pub mod Headers
pub mod Ends
pub mod Verdicts
pub mod FunctionHeads

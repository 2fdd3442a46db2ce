pub mod SumLaws
pub mod OrderLaws
pub mod Still
pub mod ProductLaws
pub mod CarryLaws
pub mod RowTurns

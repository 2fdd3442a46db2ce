-- What is known of the dump of a run, as it is handed out slot by slot.
use Rattle.std.specs.Prelude.{ℕ, List}
use Rattle.vs_four.specs.Logic.{BitList}

pub record Dump : Type 0 where
  -- the text of the head
  pub head : List ℕ
  -- the numbers of the signals that have lines
  pub numbers : List ℕ
  -- the half-period
  pub half : ℕ
  -- their values in the slot that was begun last
  pub last : List BitList
  -- what is left of the part that was begun last
  pub left : List ℕ

-- The values at the ends of the slots that are over.
use Rattle.std.specs.Prelude.{◌≡◌, ℕ, List, length}
use Rattle.std.specs.List.{All}
use Rattle.vs_four.specs.declared.Bit4.{Bit4}
use Rattle.vs_design.specs.Designs.{Design}
use Rattle.vs_queue.specs.Spare.{value_count}

-- there are those of so many slots, in each a value for each bit
pub record AreWhole (d : Design) (clocks : List ℕ) (slots : ℕ) (ends : List (List Bit4)) : Type 0 where
  pub count : length ends ≡ slots
  pub long : All (λ (values : List Bit4). length values ≡ value_count d clocks) ends

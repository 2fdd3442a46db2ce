-- A stimulus that is read whole, and why it isn't.
use Rattle.std.specs.Prelude.{◌≡◌, ℕ, List, [], None}
use Rattle.vs_four.specs.declared.Bit4.{Bit4}
use Rattle.vs_ordered.specs.declared.reading.Unread.{Unread}
use Rattle.vs_ordered.specs.declared.reading.Unread.TheVariants.{Stopped, Memory}
use Rattle.vs_rounds.specs.declared.stop.Stop.{Stop}
use Rattle.vs_stim.specs.Reading.{Reading}

-- these are all vectors of a text that isn't refused, and nothing is left of it
pub record IsWhole (r : Reading) (vectors : List (List (List Bit4))) (left : List ℕ) : Type 0 where
  pub unrefused : r.refusal ≡ None
  pub vectors_are : vectors ≡ r.vectors
  pub left_is : left ≡ []

-- where the stimulus stops the reading, this holds of the stop
abbrev pub OnStop : (Stop → Type 0) → Unread → Type 0
OnStop P (Stopped stop) = P stop
OnStop P Memory = Unit {0}

-- there is no memory
abbrev pub IsMemory : Unread → Type 0
IsMemory (Stopped stop) = ⊥
IsMemory Memory = Unit {0}

-- Values by places, as lists.
use Rattle.std.specs.Prelude.{ℕ, ◌==◌, List, [], ◌∷◌, Option, Some, None, if◌then◌else◌}

-- a place with its value
pub record Placed (V : Type 0) : Type 0 where
  pub place : ℕ
  pub value : V

module _ {V : Type 0} where
  -- the value of the first of this place
  abbrev pub found_at : ℕ → List (Placed V) → Option V
  found_at place [] = None
  found_at place (p ∷ ps) = if p.place == place then Some p.value else found_at place ps

  -- what is found at a place, or else what was added last
  abbrev pub or_at : (other : ℕ) → Option V → (place : ℕ) → V → Option V
  or_at other (Some v) place value = Some v
  or_at other None place value = if place == other then Some value else None

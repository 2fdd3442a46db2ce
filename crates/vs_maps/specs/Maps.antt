-- Values by names, as lists.
use Rattle.std.specs.Prelude.{◌≡◌, ℕ, false, List, [], ◌∷◌, map, Option, Some, None, if◌then◌else◌}
use Rattle.vs_design.specs.Clocks.{same_name}

-- a name with its value
pub record Pair (V : Type 0) : Type 0 where
  pub name : List ℕ
  pub value : V

module _ {V : Type 0} where
  abbrev pub pair : List ℕ → V → Pair V
  pair name value = record { name = name; value = value }

  -- the value of the first of this name
  abbrev pub value_at : List ℕ → List (Pair V) → Option V
  value_at name [] = None
  value_at name (p ∷ ps) = if same_name p.name name then Some p.value else value_at name ps

  -- the values, in order
  abbrev pub values_of : List (Pair V) → List V
  values_of ps = map (λ (p : Pair V). p.value) ps

  -- the first of this name has this value now; a new name comes last
  abbrev pub with_value : List ℕ → V → List (Pair V) → List (Pair V)
  with_value name value [] = record { name = name; value = value } ∷ []
  with_value name value (p ∷ ps) = if same_name p.name name then record { name = p.name; value = value } ∷ ps else p ∷ with_value name value ps

  -- no other has this name
  abbrev pub IsNew : List ℕ → List (Pair V) → Type 0
  IsNew name [] = Unit {0}
  IsNew name (p ∷ ps) = (same_name p.name name ≡ false) × IsNew name ps

  -- each name once
  abbrev pub AreDistinct : List (Pair V) → Type 0
  AreDistinct [] = Unit {0}
  AreDistinct (p ∷ ps) = IsNew p.name ps × AreDistinct ps

-- Maps that keep the first value of each name.
use Rattle.std.specs.Prelude.{◌≡◌, ◌⊎◌, ℕ, List}
use Rattle.vs_maps.specs.Maps.{Pair, value_at, with_value}

abbrev pub named : {V : Type 0} → List ℕ → V → Pair V
named name value = record { name = name; value = value }

-- at each name the map has what comes first of all these
pub record AreFirst {V : Type 0} (ps all : List (Pair V)) : Type 0 where
  pub each : (name : List ℕ) → value_at name ps ≡ value_at name all

-- all is as before, or a name has this value now
abbrev pub MayHave : {V : Type 0} → (old new : List (Pair V)) → List ℕ → V → Type 0
MayHave old new name value = (new ≡ old) ⊎ (new ≡ with_value name value old)

-- Functions that may keep a value.
use Rattle.std.specs.Prelude.{ℕ, Bool, true, false, List, [], ◌∷◌}

abbrev pub has_some : List ℕ → Bool
has_some [] = false
has_some (n ∷ ns) = true

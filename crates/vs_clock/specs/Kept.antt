-- How the targets of copies are kept.
use Rattle.std.specs.Prelude.{ℕ, List, map}
use Rattle.smallvec.specs.SmallVec.{SmallVec}
use Rattle.vs_clock.specs.declared.targets.Targets.TheInside.{Inside}

abbrev pub targets_of : Inside → List (List ℕ)
targets_of t = map (λ (v : SmallVec ℕ). v.items) t.of.items

use Rattle.std.proofs.Common.{◌≡◌, ℕ, [], map, replicate}
use Rattle.smallvec.specs.SmallVec.{SmallVec}
use Rattle.vs_level.proofs.writers.Writers.none.Given as goal

abbrev pub invariant-loop : goal.invariant-loop
invariant-loop l = map (λ (v : SmallVec ℕ). v.items) l.of.items ≡ replicate l.counter []

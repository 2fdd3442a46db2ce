use Rattle.std.proofs.Common.{◌≡◌, ℕ, [], map, replicate}
use Rattle.smallvec.specs.SmallVec.{SmallVec}
use Rattle.vs_clock.proofs.targets.Targets.none.Given as goal

abbrev pub invariant-loop : goal.invariant-loop
invariant-loop l = map (λ (v : SmallVec ℕ). v.items) l.of.items ≡ replicate l.counter []

use Rattle.std.proofs.Common.{◌≡◌, ◌+◌, length, map, take}
use Rattle.std.specs.Prelude.{option_map}
use Rattle.vs_values.specs.Environments.{placed}
use Rattle.vs_lower.proofs.writes.place_at.Given as goal

abbrev pub invariant-loop-k : goal.invariant-loop-k
invariant-loop-k l = (length l.env ≡ length l.initial.env) × (l.env ≡ placed l.initial.env (map (λ p. option_map (λ n. l.first + n) p) (take l.k l.places)) (take l.k l.value))

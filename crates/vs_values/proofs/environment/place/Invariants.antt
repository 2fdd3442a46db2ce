use Rattle.std.proofs.Common.{◌≡◌, map, take, Some}
use Rattle.vs_values.specs.Environments.{placed}
use Rattle.vs_values.proofs.environment.place.Given as goal

abbrev pub invariant-loop-n : goal.invariant-loop-n
invariant-loop-n l = l.env ≡ placed l.initial.env (map Some (take l.n l.bits)) (take l.n l.to)

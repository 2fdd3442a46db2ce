use Rattle.std.proofs.Common.{◌≡◌, ◌++◌, ◌-◌}
use Rattle.std.specs.Prelude.{replicate}
use Rattle.vs_sets.proofs.list.SetList.push_copies.Given as goal

abbrev pub invariant-loop-i : goal.invariant-loop-i
invariant-loop-i l = l.self ++ replicate (l.count - l._i) l.set ≡ l.initial.self ++ replicate l.count l.set

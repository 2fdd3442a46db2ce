use Rattle.std.proofs.Common.{◌≡◌, ◌++◌, ◌-◌}
use Rattle.vs_four.specs.Lengths.{repeat}
use Rattle.vs_sets.proofs.list.SetList.repeated.Given as goal

abbrev pub invariant-loop-i : goal.invariant-loop-i
invariant-loop-i l = l.list ++ repeat (l.count - l._i) l.self ≡ repeat l.count l.self

use Rattle.std.proofs.Common.{◌≡◌, ◌++◌, take}
use Rattle.std.specs.List.{filter}
use Rattle.vs_four.specs.Tables.{same as are_same}
use Rattle.vs_zero.specs.States.{state_of}
use Rattle.vs_zero.proofs.written.add_same.Given as goal

-- those of the first bits
abbrev pub invariant-loop-i : goal.invariant-loop-i
invariant-loop-i l = l.to.items ≡ l.initial.to.items ++ filter (λ b. are_same (state_of l.from_x b) (state_of l.from_zero b)) (take l.i l.bits)

use Rattle.std.proofs.Common.{◌≡◌, take}
use Rattle.vs_zero.specs.States.{state_of}
use Rattle.vs_zero.specs.Values.{replaced_by}
use Rattle.vs_zero.proofs.values.reset_bits.Given as goal

abbrev pub invariant-loop-i : goal.invariant-loop-i
invariant-loop-i l = state_of l.state ≡ replaced_by (take l.i l.bits) (λ b. l.value) (state_of l.initial.state)

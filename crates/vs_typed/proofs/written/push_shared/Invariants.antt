use Rattle.std.proofs.Common.{◌≡◌, ◌++◌, take}
use Rattle.std.specs.Prelude.{filter}
use Rattle.vs_design.specs.Footprints.{contains}
use Rattle.vs_typed.proofs.written.push_shared.Given as goal

abbrev pub invariant-loop-bit : goal.invariant-loop-bit
invariant-loop-bit l = l.out.items ≡ l.initial.out.items ++ filter (contains l.some) (take l.bit-index l.bits)

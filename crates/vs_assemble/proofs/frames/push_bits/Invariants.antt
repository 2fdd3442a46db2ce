use Rattle.std.proofs.Common.{◌≡◌, [], ◌∷◌, ◌++◌}
use Rattle.vs_design.specs.Footprints.{without}
use Rattle.vs_design.specs.Values.{count_from}
use Rattle.vs_assemble.proofs.frames.push_bits.Given as goal

-- the first bits
abbrev pub invariant-loop-k : goal.invariant-loop-k
invariant-loop-k l = l.bits.items ≡ l.initial.bits.items ++ without (count_from l.span.first l.k) l.clocks

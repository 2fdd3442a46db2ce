use Rattle.std.proofs.Common.{◌≡◌, take, filter}
use Rattle.vs_design.specs.Footprints.{signals_bits}
use Rattle.vs_flat.specs.DesignOf.{arena_signals}
use Rattle.vs_sets.specs.Branches.{replaced}
use Rattle.vs_sets.specs.Tables.{family_of}
use Rattle.vs_zero.specs.Sources.{is_kind}
use Rattle.vs_zero.proofs.sources.fill_kind.Given as goal

abbrev pub invariant-loop-n : goal.invariant-loop-n
invariant-loop-n l = family_of l.table ≡ replaced (signals_bits (filter (is_kind l.kind) (take l.n (arena_signals l.shapes)))) (λ b. l.set) (family_of l.initial.table)

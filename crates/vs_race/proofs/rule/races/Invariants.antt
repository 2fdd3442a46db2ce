use Rattle.std.proofs.Common.{◌≡◌, ◌<◌, ℕ, [], Some}
use Rattle.std.specs.Prelude.{slice_get}
use Rattle.vs_design.specs.Designs.{Process}
use Rattle.vs_design.specs.Races.{race_bits}
use Rattle.vs_flat.specs.DesignOf.{design_of}
use Rattle.vs_race.proofs.rule.races.Given as goal

abbrev pub invariant-loop-process : goal.invariant-loop-process
invariant-loop-process l = (q : ℕ) (x : Process) → q < l.process → slice_get (design_of l.typed).processes q ≡ Some x → race_bits (design_of l.typed) l.order q x ≡ []

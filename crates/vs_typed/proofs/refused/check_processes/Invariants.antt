use Rattle.std.proofs.Common.{◌≡◌, drop}
use Rattle.vs_design.specs.Designs.{in_text_order}
use Rattle.vs_design.specs.Refusals.{first_in}
use Rattle.vs_flat.specs.DesignOf.{design_of}
use Rattle.vs_typed.specs.Refused.{first_refused, refused_in}
use Rattle.vs_typed.proofs.refused.check_processes.Given as goal

abbrev pub invariant-loop-n : goal.invariant-loop-n
invariant-loop-n l = first_in refused_in (drop l.n (in_text_order (design_of l.shapes))) ≡ first_refused (design_of l.shapes)

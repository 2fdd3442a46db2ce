use Rattle.std.proofs.Common.{length, map, ap, ◌∙◌}
use Rattle.std.proofs.lemmas.List.{length-map}
use Rattle.vs_design.specs.Designs.{bit_count}
use Rattle.vs_design.specs.Initials.{idle_value}
use Rattle.vs_design.specs.Lifted.{Family}
use Rattle.vs_design.specs.Sets.{only}
use Rattle.vs_flat.specs.Arena.{Arena}
use Rattle.vs_flat.specs.DesignOf.{design_of}
use Rattle.vs_zero.specs.Starts.{idle_of}
use Rattle.vs_zero.proofs.Starting.{values_mapped}
use Rattle.vs_zero.proofs.starts.idle_values.Goals as goal

pub returns-clause-count : goal.returns-clause-count
returns-clause-count c =
    let sets = c.in_ok-sets.sets.items in
    ap length (c.in_ok-values.ensures ∙ ap (map idle_of) c.as_slice.ensures.value) ∙ length-map sets idle_of ∙ c.in_ok-sets.ensures.count ∙ ap (λ (a : Arena). bit_count (design_of a)) c.shapes-shapes.ensures

pub returns-clause-values : goal.returns-clause-values
returns-clause-values c =
    values_mapped (design_of c.args.typed.now) c.in_ok-sets.sets.items c.in_ok-values.values.items (c.in_ok-values.ensures ∙ ap (map idle_of) c.as_slice.ensures.value)
    (c.in_ok-sets.ensures.sets ∙ ap (λ (a : Arena). let f : Family = λ b. only (idle_value (design_of a) b) in f) c.shapes-shapes.ensures)

use Rattle.std.proofs.Common.{◌+◌, ap, ap₂, ◌∙◌}
use Rattle.vs_flat.specs.Arena.{Arena}
use Rattle.vs_flat.specs.DesignOf.{design_of}
use Rattle.vs_queue.specs.Spare.{spare_count}
use Rattle.vs_queue.proofs.first.all_values.Goals as goal

pub spare_count-requires : goal.spare_count-requires
spare_count-requires c = rw c.flat.ensures.same c.requires.one

pub returns-clause-count : goal.returns-clause-count
returns-clause-count c =
    c.in_ok-add_spares.ensures.count
    ∙ ap₂ ◌+◌ c.in_ok-values.ensures.count (c.spare_count.ensures ∙ ap (λ (z : Arena). spare_count (design_of z) c.args.clocks.now) c.flat.ensures.same)

pub returns-clause-values : goal.returns-clause-values
returns-clause-values c = c.in_ok-add_spares.ensures.same ∙ c.in_ok-values.ensures.values

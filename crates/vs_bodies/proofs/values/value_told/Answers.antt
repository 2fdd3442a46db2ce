use Rattle.std.proofs.Common.{refl, ap, ◌∙◌}
use Rattle.vs_const.specs.declared.faults.Flaws.{Flaws}
use Rattle.vs_bodies.proofs.Joins.{same}
use Rattle.vs_bodies.proofs.values.value_told.Goals as goal

pub returns : goal.returns
returns g c =
    let s = c.in_ok-found.ensures.finds.checks in
    c.broken.ensures ∙ same _ _ _ _ _ _ (ap (λ (f : Flaws). f.first) s.flaws) refl s.depth

use Rattle.std.proofs.Common.{ℕ, List, length, drop, sym, ap, ap₂, ◌∙◌}
use Rattle.vs_design.specs.Lifted.{Family}
use Rattle.vs_design.specs.TimeZero.{families_along}
use Rattle.vs_flat.specs.DesignOf.{design_of}
use Rattle.vs_sets.specs.Tables.{family_of}
use Rattle.vs_zero.proofs.Settling.{both}
use Rattle.vs_zero.proofs.Sourcing.{seam}
use Rattle.vs_zero.proofs.families.Families.of.Goals as goal

pub returns-clause-sets : goal.returns-clause-sets
returns-clause-sets c =
    let d = design_of c.args.typed.now in
    let early = seam c.in_ok-early.early.len c.settle.new.early (drop (length c.settle.new.early) c.in_ok-early.early.items) (sym (c.settle.auto.early ∙ c.as_mut_slice.ensures.len)) in
    let late = seam c.in_ok-late.late.len c.settle.new.late (drop (length c.settle.new.late) c.in_ok-late.late.items) (sym (c.settle.auto.late ∙ c.as_mut_slice-2.ensures.len)) in
    ap₂ (λ (f g : Family). both f g) (ap family_of early) (ap family_of late) ∙ c.in_ok-settle.ensures
    ∙ ap (λ (ps : List ℕ). families_along d ps (both (family_of c.as_mut_slice.result.now) (family_of c.as_mut_slice-2.result.now))) c.list.ensures
    ∙ ap₂ (λ (f g : Family). families_along d c.args.order.now (both f g))
    (ap family_of c.as_mut_slice.ensures.value ∙ c.in_ok-early.ensures.sets)
    (ap family_of c.as_mut_slice-2.ensures.value ∙ c.in_ok-late.ensures.sets)

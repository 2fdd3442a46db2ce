use Rattle.std.proofs.Common.{bit_and, ap, ap₂, ◌∙◌, arith}
use Rattle.vs_four.specs.Planes.{bits_of_planes}
use Rattle.vs_four.specs.declared.Bit4.TheVariants.{Zero}
use Rattle.vs_four.specs.Shifts.{move_up}
use Rattle.vs_four.proofs.PlanesLemmas.{operand}
use Rattle.vs_four.proofs.ShiftLemmas.{shl_is, masked_up, move_up-planes}
use Rattle.vs_four.proofs.shifts.moved_up.Goals as goal

pub returns : goal.returns
returns c =
    let a = operand _ _ _ _ c.a.view_is c.a.invariant in
    let n = c.a.inside.len in let v = c.a.inside.value in let u = c.a.inside.unknown in let p = c.args.places in
    ap₂ (bits_of_planes n)
    (ap₂ bit_and (c.unbounded_shl.ensures ∙ shl_is v p) c.ones-kept.ensures ∙ masked_up n p v a.most)
    (ap₂ bit_and (c.unbounded_shl-2.ensures ∙ shl_is u p) c.ones-kept.ensures ∙ masked_up n p u a.most)
    ∙ move_up-planes n p v u (omega (arith, a.count, c.requires))
    ∙ ap (move_up Zero p) a.planes

use Rattle.std.proofs.Common.{take, bit_and, ap, ◌∙◌, arith}
use Rattle.vs_four.specs.Planes.{bits_of_planes}
use Rattle.vs_four.proofs.PlanesLemmas.{operand}
use Rattle.vs_four.proofs.LengthsLemmas.{cut-planes}
use Rattle.vs_four.proofs.lengths.cut.Goals as goal

pub returns : goal.returns
returns c =
    let a = operand _ _ _ _ c.a.view_is c.a.invariant in
    let w = c.args.w in let v = c.a.inside.value in let u = c.a.inside.unknown in
    ap (λ m. bits_of_planes w (bit_and v m) (bit_and u m)) c.ones-kept.ensures
    ∙ cut-planes w c.a.inside.len v u (omega (arith, a.count, c.requires.no_longer)) ∙ ap (take w) a.planes

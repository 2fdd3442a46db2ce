use Rattle.std.proofs.Common.{◌^◌, ◌<◌, map, bit_or, bit_xor, ap, ◌∙◌, arith}
use Rattle.std.proofs.lemmas.Nat.{or_lt, xor_lt, pow_pos}
use Rattle.vs_four.specs.Planes.{bits_of_planes}
use Rattle.vs_four.specs.Tables.{not_bit}
use Rattle.vs_four.proofs.PlanesLemmas.{operand}
use Rattle.vs_four.proofs.LogicLemmas.{not-planes}
use Rattle.vs_four.proofs.logic.not.Goals as goal

pub invariant_of-result : goal.invariant_of-result
invariant_of-result c =
    let a = operand _ _ _ _ c.a.view_is c.a.invariant in
    let n = c.a.inside.len in
    let full : c.ones.result < 2 ^ n = omega (arith, c.ones.ensures, pow_pos n) in
    (a.some, a.most, or_lt n _ _ (xor_lt n _ _ a.value_below full) a.unknown_below, a.unknown_below)

pub returns : goal.returns
returns c =
    let a = operand _ _ _ _ c.a.view_is c.a.invariant in
    let n = c.a.inside.len in let v = c.a.inside.value in let u = c.a.inside.unknown in
    ap (λ m. bits_of_planes n (bit_or (bit_xor v m) u) u) c.ones.ensures ∙ not-planes n v u ∙ ap (map not_bit) a.planes

use Rattle.std.proofs.Common.{◌≡◌, ◌^◌, ◌<◌, bit_or, ap, ap₂, ◌∙◌, arith}
use Rattle.std.proofs.lemmas.Nat.{or_lt}
use Rattle.vs_four.specs.Planes.{bits_of_planes}
use Rattle.vs_four.specs.Tables.{or_bit}
use Rattle.vs_four.specs.Logic.{map2}
use Rattle.vs_four.proofs.PlanesLemmas.{operand, operand_like}
use Rattle.vs_four.proofs.LogicLemmas.{less_ones, or-planes, some_one, or_unknown}
use Rattle.vs_four.proofs.logic.or.Goals as goal

pub invariant_of-result : goal.invariant_of-result
invariant_of-result c =
    let a = operand _ _ _ _ c.a.view_is c.a.invariant in
    let b = operand_like c.a.inside.len _ _ _ _ _ c.requires a.count (operand _ _ _ _ c.b.view_is c.b.invariant) in
    let n = c.a.inside.len in let va = c.a.inside.value in let ua = c.a.inside.unknown in let vb = c.b.inside.value in let ub = c.b.inside.unknown in
    let unknown : bit_or ua ub < 2 ^ n = or_lt n ua ub a.unknown_below b.unknown_below in
    let first : c.without.result < 2 ^ n = omega (arith, c.without.ensures.at_most, a.value_below) in
    let second : c.without-2.result < 2 ^ n = omega (arith, c.without-2.ensures.at_most, b.value_below) in
    let rest : c.without-unknown.result < 2 ^ n = omega (arith, c.without-unknown.ensures.at_most, unknown) in
    (a.some, a.most, or_lt n _ _ (or_lt n _ _ first second) rest, rest)

pub returns : goal.returns
returns c =
    let a = operand _ _ _ _ c.a.view_is c.a.invariant in
    let b = operand_like c.a.inside.len _ _ _ _ _ c.requires a.count (operand _ _ _ _ c.b.view_is c.b.invariant) in
    let n = c.a.inside.len in let va = c.a.inside.value in let ua = c.a.inside.unknown in let vb = c.b.inside.value in let ub = c.b.inside.unknown in
    let one : bit_or c.without.result c.without-2.result ≡ some_one va ua vb ub = ap₂ bit_or c.without.ensures.value c.without-2.ensures.value in
    let unknown : c.without-unknown.result ≡ or_unknown va ua vb ub = c.without-unknown.ensures.value ∙ ap (less_ones (bit_or ua ub)) one in
    ap₂ (bits_of_planes n) (ap₂ bit_or one unknown) unknown ∙ or-planes n va ua vb ub ∙ ap₂ (map2 or_bit) a.planes b.planes

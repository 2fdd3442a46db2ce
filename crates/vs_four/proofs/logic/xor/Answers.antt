use Rattle.std.proofs.Common.{◌^◌, ◌<◌, bit_or, ap₂, ◌∙◌}
use Rattle.std.proofs.lemmas.Nat.{or_lt, xor_lt}
use Rattle.vs_four.specs.Tables.{xor_bit}
use Rattle.vs_four.specs.Logic.{map2}
use Rattle.vs_four.proofs.PlanesLemmas.{operand, operand_like}
use Rattle.vs_four.proofs.LogicLemmas.{xor-planes}
use Rattle.vs_four.proofs.logic.xor.Goals as goal

pub invariant_of-result : goal.invariant_of-result
invariant_of-result c =
    let a = operand _ _ _ _ c.a.view_is c.a.invariant in
    let b = operand_like c.a.inside.len _ _ _ _ _ c.requires a.count (operand _ _ _ _ c.b.view_is c.b.invariant) in
    let n = c.a.inside.len in let va = c.a.inside.value in let ua = c.a.inside.unknown in let vb = c.b.inside.value in let ub = c.b.inside.unknown in
    let unknown : bit_or ua ub < 2 ^ n = or_lt n ua ub a.unknown_below b.unknown_below in
    (a.some, a.most, or_lt n _ _ (xor_lt n va vb a.value_below b.value_below) unknown, unknown)

pub returns : goal.returns
returns c =
    let a = operand _ _ _ _ c.a.view_is c.a.invariant in
    let b = operand_like c.a.inside.len _ _ _ _ _ c.requires a.count (operand _ _ _ _ c.b.view_is c.b.invariant) in
    let n = c.a.inside.len in let va = c.a.inside.value in let ua = c.a.inside.unknown in let vb = c.b.inside.value in let ub = c.b.inside.unknown in
    xor-planes n va ua vb ub ∙ ap₂ (map2 xor_bit) a.planes b.planes

use Rattle.std.proofs.Common.{◌-◌, ◌^◌, ◌<◌, bit_xor, sym, ap, ap₂, ◌∙◌, arith}
use Rattle.std.proofs.lemmas.Nat.{xor_lt}
use Rattle.vs_four.specs.Planes.{bits_of_planes}
use Rattle.vs_four.specs.Tables.{casex_bit}
use Rattle.vs_four.specs.Logic.{map2, reduce_and}
use Rattle.vs_four.proofs.PlanesLemmas.{operand, operand_like}
use Rattle.vs_four.proofs.LogicLemmas.{x-planes}
use Rattle.vs_four.proofs.Reductions.{no_difference-planes}
use Rattle.vs_four.proofs.logic.matches_x.Goals as goal

pub returns : goal.returns
returns c =
    let a = operand _ _ _ _ c.a.view_is c.a.invariant in
    let b = operand_like c.a.inside.len _ _ _ _ _ c.requires a.count (operand _ _ _ _ c.b.view_is c.b.invariant) in
    let n = c.a.inside.len in let va = c.a.inside.value in let ua = c.a.inside.unknown in let vb = c.b.inside.value in let ub = c.b.inside.unknown in
    let values : bit_xor va vb < 2 ^ n = xor_lt n va vb a.value_below b.value_below in
    let below : c.without.result < 2 ^ n = omega (arith, c.without.ensures.at_most, values) in
    c.without_difference.ensures ∙ sym (no_difference-planes n c.without.result below)
    ∙ ap reduce_and (ap (λ d. bits_of_planes n (bit_xor (2 ^ n - 1) d) 0) c.without.ensures.value ∙ x-planes n va ua vb ub ∙ ap₂ (map2 casex_bit) a.planes b.planes)

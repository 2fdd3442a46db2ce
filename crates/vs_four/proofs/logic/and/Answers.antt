use Rattle.std.proofs.Common.{◌∙◌, ap₂, bit_or}
use Rattle.std.proofs.lemmas.Nat.{or_lt}
use Rattle.vs_four.specs.Tables.{and_bit}
use Rattle.vs_four.specs.Logic.{map2}
use Rattle.vs_four.proofs.PlanesLemmas.{operand, operand_like, and_below}
use Rattle.vs_four.proofs.LogicLemmas.{and-planes}
use Rattle.vs_four.proofs.logic.and.Goals as goal

pub invariant_of-result : goal.invariant_of-result
invariant_of-result c =
    let a = operand _ _ _ _ c.a.view_is c.a.invariant in
    let n = c.a.inside.len in
    let not_zero = and_below n _ (bit_or c.b.inside.value c.b.inside.unknown) (or_lt n c.a.inside.value c.a.inside.unknown a.value_below a.unknown_below) in
    (a.some, a.most, not_zero, and_below n _ _ not_zero)

pub returns : goal.returns
returns c =
    let a = operand _ _ _ _ c.a.view_is c.a.invariant in
    let b = operand_like c.a.inside.len _ _ _ _ _ c.requires a.count (operand _ _ _ _ c.b.view_is c.b.invariant) in
    and-planes c.a.inside.len c.a.inside.value c.a.inside.unknown c.b.inside.value c.b.inside.unknown ∙ ap₂ (map2 and_bit) a.planes b.planes

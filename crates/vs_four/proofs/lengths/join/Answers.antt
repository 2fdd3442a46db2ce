use Rattle.std.proofs.Common.{◌+◌, ◌≤◌, ◌++◌, ap₂, ◌∙◌, arith}
use Rattle.vs_four.proofs.PlanesLemmas.{operand}
use Rattle.vs_four.proofs.LengthsLemmas.{joined-below, join-planes}
use Rattle.vs_four.proofs.lengths.join.Goals as goal

pub overflow_shl-result : goal.overflow_shl-result
overflow_shl-result c =
    let high = operand _ _ _ _ c.high.view_is c.high.invariant in
    let low = operand _ _ _ _ c.low.view_is c.low.invariant in
    omega (arith, high.count, low.count, high.some, c.requires.at_most_64)

pub overflow_shl-result-2 : goal.overflow_shl-result-2
overflow_shl-result-2 c =
    let high = operand _ _ _ _ c.high.view_is c.high.invariant in
    let low = operand _ _ _ _ c.low.view_is c.low.invariant in
    omega (arith, high.count, low.count, high.some, c.requires.at_most_64)

pub invariant_of-result : goal.invariant_of-result
invariant_of-result c =
    let high = operand _ _ _ _ c.high.view_is c.high.invariant in
    let low = operand _ _ _ _ c.low.view_is c.low.invariant in
    let fits : c.high.inside.len + c.low.inside.len ≤ 64 = omega (arith, high.count, low.count, c.requires.at_most_64) in (
      omega (arith, high.some),
      fits,
      joined-below c.high.inside.len c.low.inside.len _ _ fits high.value_below low.value_below,
      joined-below c.high.inside.len c.low.inside.len _ _ fits high.unknown_below low.unknown_below,
    )

pub returns : goal.returns
returns c =
    let high = operand _ _ _ _ c.high.view_is c.high.invariant in
    let low = operand _ _ _ _ c.low.view_is c.low.invariant in
    let fits : c.high.inside.len + c.low.inside.len ≤ 64 = omega (arith, high.count, low.count, c.requires.at_most_64) in
    join-planes c.high.inside.len c.low.inside.len _ _ _ _ fits high.value_below high.unknown_below low.value_below low.unknown_below
    ∙ ap₂ ◌++◌ low.planes high.planes

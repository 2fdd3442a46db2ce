use Rattle.std.proofs.Common.{◌≡◌, ◌-◌, ◌*◌, ◌^◌, ◌<◌, ◌≤◌, ◌++◌, if◌then◌else◌, replicate, bit_or, sym, ap, ap₂, ◌∙◌, arith}
use Rattle.std.proofs.Math.Nat.{pow-le-pow_right}
use Rattle.std.proofs.lemmas.Bool.{cond-true, cond-false}
use Rattle.vs_four.specs.declared.Bit4.TheVariants.{Zero}
use Rattle.vs_four.specs.Planes.{bits_of_planes, value_digit, unknown_digit}
use Rattle.vs_four.specs.Lengths.{last_or}
use Rattle.vs_four.proofs.PlanesLemmas.{operand, digits-below}
use Rattle.vs_four.proofs.LengthsLemmas.{filled, filled-below, extend-planes}
use Rattle.vs_four.proofs.lengths.extend.Goals as goal
use Rattle.vs_four.proofs.lengths.extend.Goals.{then-signed, else-signed}

pub overflow_sub-above : goal.overflow_sub-above
overflow_sub-above c =
    let a = operand _ _ _ _ c.a.view_is c.a.invariant in
    let more : 2 ^ c.a.inside.len ≤ 2 ^ c.args.w = pow-le-pow_right (omega arith) {i = c.a.inside.len} {j = c.args.w} (omega (arith, a.count, c.requires.no_shorter)) in
    omega (arith, more, c.ones.ensures, c.ones-2.ensures)

pub invariant_of-result : goal.invariant_of-result
invariant_of-result c =
    let a = operand _ _ _ _ c.a.view_is c.a.invariant in
    let n = c.a.inside.len in let w = c.args.w in
    let longer : n ≤ w = omega (arith, a.count, c.requires.no_shorter) in
    let above : c.ones.result - c.ones-2.result ≡ (2 ^ w - 1) - (2 ^ n - 1) = ap₂ (λ x y. x - y) c.ones.ensures c.ones-2.ensures in
    let digits = digits-below c.if-signed.fill in
    let value : filled n w c.a.inside.value (value_digit c.if-signed.fill) < 2 ^ w = filled-below n w _ _ longer a.value_below digits.0 in
    let unknown : filled n w c.a.inside.unknown (unknown_digit c.if-signed.fill) < 2 ^ w = filled-below n w _ _ longer a.unknown_below digits.1 in (
      omega (arith, a.some, longer),
      c.requires.at_most_64,
      rw (c.value_digit.ensures, above) value,
      rw (c.unknown_digit.ensures, above) unknown,
    )

pub returns : goal.returns
returns c =
    let a = operand _ _ _ _ c.a.view_is c.a.invariant in
    let n = c.a.inside.len in let w = c.args.w in
    let longer : n ≤ w = omega (arith, a.count, c.requires.no_shorter) in
    let above : c.ones.result - c.ones-2.result ≡ (2 ^ w - 1) - (2 ^ n - 1) = ap₂ (λ x y. x - y) c.ones.ensures c.ones-2.ensures in
    let fill : c.if-signed.fill ≡ (if c.args.signed then last_or Zero c.args.a else Zero) =
    elim c.if-signed.branch [
      | then-signed s ↦ s.fill-is ∙ s.top-fill.ensures ∙ sym (cond-true c.args.signed _ _ s.if-signed.true)
      | else-signed s ↦ s.fill-is ∙ sym (cond-false c.args.signed _ _ s.if-signed.false)
    ] in
    ap₂ (bits_of_planes w)
    (ap₂ (λ d m. bit_or c.a.inside.value (d * m)) c.value_digit.ensures above)
    (ap₂ (λ d m. bit_or c.a.inside.unknown (d * m)) c.unknown_digit.ensures above)
    ∙ extend-planes n w c.a.inside.value c.a.inside.unknown c.if-signed.fill longer a.value_below a.unknown_below
    ∙ ap₂ ◌++◌ a.planes (ap₂ replicate (ap (λ k. w - k) (sym a.count)) fill)

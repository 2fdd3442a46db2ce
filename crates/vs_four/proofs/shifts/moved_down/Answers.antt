use Rattle.std.proofs.Common.{◌≡◌, ℕ, ◌-◌, ◌*◌, ◌/◌, ◌^◌, ◌≤◌, bit_or, ap, ap₂, ◌∙◌, arith}
use Rattle.vs_four.specs.Planes.{bits_of_planes, value_digit, unknown_digit}
use Rattle.vs_four.specs.Shifts.{move_down}
use Rattle.vs_four.proofs.PlanesLemmas.{operand, digits-below}
use Rattle.vs_four.proofs.ShiftLemmas.{shr_is, above_is, filled_down-below, move_down-planes, word_fits}
use Rattle.vs_four.proofs.shifts.moved_down.Goals as goal

pub invariant_of-result : goal.invariant_of-result
invariant_of-result c =
    let a = operand _ _ _ _ c.a.view_is c.a.invariant in
    let n = c.a.inside.len in let v = c.a.inside.value in let u = c.a.inside.unknown in let p = c.args.places in
    let within : p ≤ n = omega (arith, a.count, c.requires) in
    let digits = digits-below c.args.fill in
    let ones : c.ones.result - c.unbounded_shr.result ≡ (2 ^ n - 1) - (2 ^ (n - p) - 1) =
    ap₂ ◌-◌ c.ones.ensures (c.unbounded_shr.ensures ∙ shr_is _ p c.ones-2.type_inv ∙ ap (λ (k : ℕ). k / 2 ^ p) c.ones-2.ensures) ∙ above_is n p within in
    let value : c.unbounded_shr-2.result ≡ v / 2 ^ p = c.unbounded_shr-2.ensures ∙ shr_is v p (word_fits n v a.most a.value_below) in
    let unknown : c.unbounded_shr-3.result ≡ u / 2 ^ p = c.unbounded_shr-3.ensures ∙ shr_is u p (word_fits n u a.most a.unknown_below) in (
      a.some,
      a.most,
      rw (value, ones, c.value_digit.ensures) (filled_down-below n p v (value_digit c.args.fill) within a.value_below digits.0),
      rw (unknown, ones, c.unknown_digit.ensures) (filled_down-below n p u (unknown_digit c.args.fill) within a.unknown_below digits.1),
    )

pub returns : goal.returns
returns c =
    let a = operand _ _ _ _ c.a.view_is c.a.invariant in
    let n = c.a.inside.len in let v = c.a.inside.value in let u = c.a.inside.unknown in let p = c.args.places in
    let within : p ≤ n = omega (arith, a.count, c.requires) in
    let ones : c.ones.result - c.unbounded_shr.result ≡ (2 ^ n - 1) - (2 ^ (n - p) - 1) =
    ap₂ ◌-◌ c.ones.ensures (c.unbounded_shr.ensures ∙ shr_is _ p c.ones-2.type_inv ∙ ap (λ (k : ℕ). k / 2 ^ p) c.ones-2.ensures) ∙ above_is n p within in
    let value : c.unbounded_shr-2.result ≡ v / 2 ^ p = c.unbounded_shr-2.ensures ∙ shr_is v p (word_fits n v a.most a.value_below) in
    let unknown : c.unbounded_shr-3.result ≡ u / 2 ^ p = c.unbounded_shr-3.ensures ∙ shr_is u p (word_fits n u a.most a.unknown_below) in
    ap₂ (bits_of_planes n)
    (ap₂ bit_or value (ap₂ ◌*◌ c.value_digit.ensures ones))
    (ap₂ bit_or unknown (ap₂ ◌*◌ c.unknown_digit.ensures ones))
    ∙ move_down-planes n p v u c.args.fill within a.value_below a.unknown_below
    ∙ ap (move_down c.args.fill p) a.planes

use Rattle.std.proofs.Common.{ℕ, ◌+◌, ◌*◌, ◌<◌, ◌∷◌, ap, ◌∙◌, sym, subst, arith}
use Rattle.vs_four.specs.Planes.{bits_of_planes}
use Rattle.vs_stim.proofs.Ahead.{planes_count, planes_more, below_more, half_fits, digit_fits, value_below, unknown_below}
use Rattle.vs_stim.proofs.digits.Digits.push.Goals as goal

pub overflow_mul-self : goal.overflow_mul-self
overflow_mul-self c =
    let n = planes_count c.self.inside.len c.self.inside.value c.self.inside.unknown c.args.self.now c.self.view_is in
    omega (arith, half_fits c.self.inside.len c.self.inside.value (omega (arith, n, c.requires)) c.self.invariant.1)

pub overflow_add-self : goal.overflow_add-self
overflow_add-self c =
    let n = planes_count c.self.inside.len c.self.inside.value c.self.inside.unknown c.args.self.now c.self.view_is in
    omega (arith, digit_fits c.self.inside.len c.self.inside.value c.planes_of-value.result.0 (omega (arith, n, c.requires)) c.self.invariant.1 (subst (λ (d : ℕ). d < 2) (sym c.planes_of-value.ensures.value) (value_below c.args.bit)))

pub overflow_mul-self-2 : goal.overflow_mul-self-2
overflow_mul-self-2 c =
    let n = planes_count c.self.inside.len c.self.inside.value c.self.inside.unknown c.args.self.now c.self.view_is in
    omega (arith, half_fits c.self.inside.len c.self.inside.unknown (omega (arith, n, c.requires)) c.self.invariant.2)

pub overflow_add-self-2 : goal.overflow_add-self-2
overflow_add-self-2 c =
    let n = planes_count c.self.inside.len c.self.inside.value c.self.inside.unknown c.args.self.now c.self.view_is in
    omega (arith, digit_fits c.self.inside.len c.self.inside.unknown c.planes_of-value.result.1 (omega (arith, n, c.requires)) c.self.invariant.2 (subst (λ (d : ℕ). d < 2) (sym c.planes_of-value.ensures.unknown) (unknown_below c.args.bit)))

pub invariant_of-self : goal.invariant_of-self
invariant_of-self c =
    let n = planes_count c.self.inside.len c.self.inside.value c.self.inside.unknown c.args.self.now c.self.view_is in (
      omega (arith, n, c.requires),
      below_more c.self.inside.len c.self.inside.value c.planes_of-value.result.0 c.self.invariant.1 (subst (λ (d : ℕ). d < 2) (sym c.planes_of-value.ensures.value) (value_below c.args.bit)),
      below_more c.self.inside.len c.self.inside.unknown c.planes_of-value.result.1 c.self.invariant.2 (subst (λ (d : ℕ). d < 2) (sym c.planes_of-value.ensures.unknown) (unknown_below c.args.bit)),
    )

pub returns : goal.returns
returns c =
    (λ i. bits_of_planes (c.self.inside.len + 1) (2 * c.self.inside.value + c.planes_of-value.ensures.value i) (2 * c.self.inside.unknown + c.planes_of-value.ensures.unknown i))
    ∙ planes_more c.self.inside.len c.self.inside.value c.self.inside.unknown c.args.bit
    ∙ ap (λ bits. c.args.bit ∷ bits) c.self.view_is

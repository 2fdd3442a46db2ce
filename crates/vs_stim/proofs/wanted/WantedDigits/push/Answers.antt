use Rattle.std.proofs.Common.{◌+◌, ◌*◌, ◌∷◌, length, sym, ap, ◌∙◌, arith}
use Rattle.vs_four.specs.declared.Bit4.TheVariants.{X}
use Rattle.vs_stim.specs.Wanted.{marked}
use Rattle.vs_stim.proofs.Ahead.{half_fits, digit_fits}
use Rattle.vs_stim.proofs.Marked.{view_length, marked_exactly, marked_any, pushed_below}
use Rattle.vs_stim.proofs.wanted.WantedDigits.push.Goals as goal

pub push-requires : goal.push-requires
push-requires c = omega (arith, c.requires, view_length c.self.inside.bits c.self.inside.any c.args.self.now c.self.view_is)

pub overflow_mul-self : goal.overflow_mul-self
overflow_mul-self c = let long = view_length c.self.inside.bits c.self.inside.any c.args.self.now c.self.view_is in omega (arith, half_fits (length c.self.inside.bits) c.self.inside.any (omega (arith, c.requires, long)) c.self.invariant)

pub invariant_of-self : goal.invariant_of-self
invariant_of-self c = omega (arith, pushed_below c.self.inside.bits c.push.new.self c.in-Exactly.bit c.self.inside.any 0 c.push.ensures c.self.invariant (omega arith))

pub push-requires-in-Any : goal.push-requires-in-Any
push-requires-in-Any c = omega (arith, c.requires, view_length c.self.inside.bits c.self.inside.any c.args.self.now c.self.view_is)

pub overflow_mul-self-in-Any : goal.overflow_mul-self-in-Any
overflow_mul-self-in-Any c =
    let long = view_length c.self.inside.bits c.self.inside.any c.args.self.now c.self.view_is in
    omega (arith, half_fits (length c.self.inside.bits) c.self.inside.any (omega (arith, c.requires, long)) c.self.invariant)

pub overflow_add-self : goal.overflow_add-self
overflow_add-self c =
    let long = view_length c.self.inside.bits c.self.inside.any c.args.self.now c.self.view_is in
    omega (arith, digit_fits (length c.self.inside.bits) c.self.inside.any 1 (omega (arith, c.requires, long)) c.self.invariant (omega arith))

pub invariant_of-self-in-Any : goal.invariant_of-self-in-Any
invariant_of-self-in-Any c = pushed_below c.self.inside.bits c.push-in-Any.new.self X c.self.inside.any 1 c.push-in-Any.ensures c.self.invariant (omega arith)

pub returns-in-Exactly : goal.returns-in-Exactly
returns-in-Exactly c =
    let any = c.self.inside.any in
    ap (λ bits. marked bits (any * 2)) c.push.ensures
    ∙ marked_exactly c.in-Exactly.bit c.self.inside.bits any (any * 2) (omega arith)
    ∙ (λ i. sym c.in-Exactly.is i ∷ c.self.view_is i)

pub returns-in-Any : goal.returns-in-Any
returns-in-Any c =
    let any = c.self.inside.any in
    ap (λ bits. marked bits (2 * any + 1)) c.push-in-Any.ensures ∙ marked_any X c.self.inside.bits any ∙ (λ i. sym c.in-Any.is i ∷ c.self.view_is i)

use Rattle.std.proofs.Common.{◌≡◌, ◌∙◌, ◌++◌, ℕ, replicate, drop, ap, arith}
use Rattle.vs_values.proofs.Shifting.{down_is}
use Rattle.vs_values.proofs.shifts.lowered.Goals as goal

pub returns : goal.returns
returns c =
    let end : c.loop.counter ≡ c.args.places = omega (arith, c.loop.auto.counter-end, c.loop-test.false) in
    c.loop.invariant ∙ ap (λ (k : ℕ). drop c.args.places c.args.to.now ++ replicate k c.args.fill) end ∙ down_is c.args.to.now c.args.places c.args.fill c.requires

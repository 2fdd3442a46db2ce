use Rattle.std.proofs.Common.{◌≡◌, ◌∙◌, ◌-◌, ◌++◌, ℕ, length, replicate, take, ap, arith}
use Rattle.vs_values.proofs.Shifting.{up_is}
use Rattle.vs_values.proofs.shifts.raised.Goals as goal

pub returns : goal.returns
returns c =
    let end : c.loop-k.k ≡ length c.args.to.now - c.args.places = omega (arith, c.loop-k.auto.k-end, c.loop-k-test.false) in
    c.loop-k.invariant ∙ ap (λ (k : ℕ). replicate c.args.places c.args.fill ++ take k c.args.to.now) end ∙ up_is c.args.to.now c.args.places c.args.fill c.requires

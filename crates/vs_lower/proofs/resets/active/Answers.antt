use Rattle.std.proofs.Common.{◌≡◌, ℕ, [], ◌∷◌, subst, rules}
use Rattle.vs_lower.proofs.Resetting.{active_high, active_low}
use Rattle.vs_lower.proofs.resets.active.Goals as goal

pub returns-then-falls : goal.returns-then-falls
returns-then-falls c =
    active_low c.value_law.ensures.length c.args.count c.args.code.now c.applied.new.code c.args.falls c.args.input c.push.new.self.items c.in_ok-to.to.items c.if-falls.true c.requires.there (subst (λ (n : ℕ). c.push.new.self.items ≡ n ∷ []) c.home.ensures (search rules)) c.requires.ready c.in_ok-to.ensures

pub returns : goal.returns
returns c = active_high c.args.count c.args.code.now c.args.falls c.args.input c.push.new.self.items c.if-falls.false c.requires.there (subst (λ (n : ℕ). c.push.new.self.items ≡ n ∷ []) c.home.ensures (search rules)) c.requires.ready

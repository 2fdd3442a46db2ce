use Rattle.std.proofs.Common.{List, ℕ, ◌<◌, subst, ◌∙◌}
use Rattle.vs_clock.specs.Spread.{Labels}
use Rattle.vs_clock.proofs.Spreading.{spread_on, label_within, pending_label}
use Rattle.vs_clock.proofs.spread.spread.Goals as goal

pub of-requires : goal.of-requires
of-requires c = subst (λ n. c.in-Some.bit < n) (c.loop-bit.auto.labels ∙ c.label_all.auto.labels ∙ c.requires.count) (label_within c.loop-bit.labels c.in-Some.bit (pending_label c.args.targets.now c.args.root c.args.labels.now c.loop-bit.labels c.loop-bit.pending.items c.pop.new.self.items c.in-Some.bit c.in-Some.ensures.items c.loop-bit.invariant))

pub loop-bit-preserved : goal.loop-bit-preserved
loop-bit-preserved c = spread_on c.args.targets.now c.args.root c.in-Some.bit c.args.labels.now c.loop-bit.labels c.label_all-in-Some.new.labels c.loop-bit.pending.items c.pop.new.self.items c.label_all-in-Some.new.pending.items c.in-Some.ensures.items c.loop-bit.invariant (subst (λ (bits : List ℕ). Labels bits c.args.root c.loop-bit.labels c.label_all-in-Some.new.labels c.pop.new.self.items c.label_all-in-Some.new.pending.items) c.of.ensures c.in_ok-label_all-2.ensures)

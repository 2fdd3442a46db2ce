use Rattle.std.proofs.Common.{take, sym, ◌∙◌}
use Rattle.std.proofs.lemmas.Bool.{and_from}
use Rattle.vs_misses.specs.Missed.{is_met, are_met}
use Rattle.vs_misses.proofs.Meets.{are_met_more, are_met_unmet}
use Rattle.vs_misses.proofs.kept.Kept.are_met.Goals as goal

pub returns-then-not-is_met : goal.returns-then-not-is_met
returns-then-not-is_met c =
    sym (are_met_unmet c.loop-n.n c.args.self.now c.args.bits.now c.digit.result c.get.result c.digit.ensures c.get.ensures (sym c.is_met.ensures ∙ c.if-not-is_met.true))

pub loop-n-preserved : goal.loop-n-preserved
loop-n-preserved c =
    are_met_more c.args.self.now c.args.bits.now c.loop-n.n c.digit.result c.get.result c.digit.ensures c.get.ensures
    ∙ and_from (are_met (take c.loop-n.n c.args.self.now) (take c.loop-n.n c.args.bits.now)) (is_met c.digit.result c.get.result) c.loop-n.invariant (sym c.is_met.ensures ∙ c.if-not-is_met.false)

use Rattle.std.proofs.Common.{get_or}
use Rattle.vs_bodies.proofs.MentionSteps.{item_is}
use Rattle.vs_scope.proofs.PassedSignals.{none_passed, one_passed, all_skipped, all_passed}
use Rattle.vs_scope.proofs.local_signals.Signalling.pass_all.Goals as goal

pub loop-s-init : goal.loop-s-init
loop-s-init c = none_passed c.args.self.now c.new-list.result.items c.args.reads.now c.new-list.ensures.items

pub loop-s-preserved : goal.loop-s-preserved
loop-s-preserved c =
    one_passed c.args.self.now c.loop-s.self c.pass.new.self c.loop-s.list.items c.push.new.self.items c.in_ok-one.one c.args.reads.now c.loop-s.s-index (get_or c.args.reads.now c.loop-s.s-index _) c.loop-s-test.true (item_is c.args.reads.now c.loop-s.s-index _ c.loop-s-test.true)
    c.in_ok-one.ensures.skipped c.in_ok-one.ensures.passed c.in_ok-push.ensures.items c.loop-s.invariant

pub returns-clause-next : goal.returns-clause-next
returns-clause-next c = all_skipped c.args.self.now c.loop-s.self c.loop-s.list.items c.args.reads.now c.loop-s.s-index c.loop-s-test.false c.loop-s.invariant

pub returns-clause-passed : goal.returns-clause-passed
returns-clause-passed c = all_passed c.args.self.now c.loop-s.self c.loop-s.list.items c.args.reads.now c.loop-s.s-index c.loop-s-test.false c.loop-s.invariant

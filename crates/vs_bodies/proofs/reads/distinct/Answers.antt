use Rattle.std.proofs.Common.{get_or}
use Rattle.vs_bodies.proofs.MentionSteps.{item_is}
use Rattle.vs_bodies.proofs.Mentioned.{none_distinct, distinct_more, all_distinct}
use Rattle.vs_bodies.proofs.reads.distinct.Goals as goal

pub loop-m-init : goal.loop-m-init
loop-m-init c = none_distinct c.new-seen.result c.new-signals.result.items c.args.list.now c.new-seen.ensures c.new-signals.ensures.items

pub loop-m-preserved : goal.loop-m-preserved
loop-m-preserved c =
    distinct_more c.loop-m.seen c.push_distinct.new.seen c.loop-m.signals.items c.push_distinct.new.signals.items c.args.list.now c.loop-m.m-index (get_or c.args.list.now c.loop-m.m-index _) c.loop-m-test.true (item_is c.args.list.now c.loop-m.m-index _ c.loop-m-test.true) c.in_ok-push_distinct.ensures.seen
    c.in_ok-push_distinct.ensures.signals c.loop-m.invariant

pub returns : goal.returns
returns c = λ ms t. all_distinct c.loop-m.seen c.loop-m.signals.items c.args.list.now ms c.loop-m.m-index c.loop-m-test.false c.loop-m.invariant t

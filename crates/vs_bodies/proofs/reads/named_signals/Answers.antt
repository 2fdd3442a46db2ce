use Rattle.std.proofs.Common.{get_or}
use Rattle.vs_bodies.proofs.MentionSteps.{item_is}
use Rattle.vs_bodies.proofs.Mentioned.{none_named, named_more, all_named}
use Rattle.vs_bodies.proofs.reads.named_signals.Goals as goal

pub loop-m-init : goal.loop-m-init
loop-m-init c = none_named c.new-named.result c.args.list.now c.new-named.ensures

pub loop-m-preserved : goal.loop-m-preserved
loop-m-preserved c = named_more c.loop-m.named c.note_named.new.named c.args.list.now c.loop-m.m-index (get_or c.args.list.now c.loop-m.m-index _) c.loop-m-test.true (item_is c.args.list.now c.loop-m.m-index _ c.loop-m-test.true) c.in_ok-note_named.ensures c.loop-m.invariant

pub returns : goal.returns
returns c = λ ms t. all_named c.loop-m.named c.args.list.now ms c.loop-m.m-index c.loop-m-test.false c.loop-m.invariant t

use Rattle.std.proofs.Common.{ℕ, length, sym, subst}
use Rattle.vs_feed.specs.Fed.{IsWide}
use Rattle.vs_feed.proofs.Packs.{group_more}
use Rattle.vs_feed.proofs.column.feed_input.Goals as goal

pub feed_group-requires-clause-input : goal.feed_group-requires-clause-input
feed_group-requires-clause-input g c = subst (λ (n : ℕ). IsWide c.args.input n c.args.stimuli.now) (sym c.loop-k.invariant.long) c.requires.input

pub loop-k-preserved : goal.loop-k-preserved
loop-k-preserved g c =
    group_more g.W.Word.lane g.W.Word.LANES c.loop-k.k c.args.stimuli.now c.args.input (length c.args.pairs.now) c.loop-k.pairs c.feed_group.new.pairs
    c.feed_group.ensures.count c.feed_group.ensures.packed c.feed_group.ensures.others c.loop-k.invariant

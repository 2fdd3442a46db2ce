use Rattle.std.proofs.Common.{◌≡◌, ℕ, length, sym, ◌∙◌, subst, rules, arith}
use Rattle.vs_feed.specs.Fed.{HaveBits}
use Rattle.vs_feed.proofs.Feeds.{fed_all, fed_more, none_driven}
use Rattle.vs_feed.proofs.column.feed_all.Goals as goal

pub loop-pair-preserved : goal.loop-pair-preserved
loop-pair-preserved g c =
    let ks = c.args.stimuli.now in
    let pairs = c.loop-pair.pairs in
    let none : length ks ≡ 0 = search rules in
    let bits : HaveBits (length pairs) ks = subst (λ (n : ℕ). HaveBits n ks) (sym c.loop-pair.auto.pairs) c.requires.bits in
    fed_more g.W.Word.lane g.W.Word.LANES c.loop-pair.pair-index ks pairs c.of_bit.result bits (omega arith) (λ i h.
    c.of_bit.ensures i h ∙ sym (none_driven (length pairs) ks i c.loop-pair.pair-index none)) c.loop-pair.invariant

pub returns-else-is_empty : goal.returns-else-is_empty
returns-else-is_empty g c = fed_all g.W.Word.lane g.W.Word.LANES (length c.args.pairs.now) c.args.stimuli.now c.feed_inputs.new.pairs c.feed_inputs.auto.pairs c.requires.bits c.feed_inputs.ensures

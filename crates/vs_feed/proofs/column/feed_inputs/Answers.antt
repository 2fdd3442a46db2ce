use Rattle.std.proofs.Common.{ℕ, ◌+◌, ◌-◌, ◌≤◌, length, sym, ap, ◌∙◌, subst, arith}
use Rattle.vs_feed.specs.Lanes.{lane_at}
use Rattle.vs_feed.specs.Fed.{driven_value, HaveBits, IsWide}
use Rattle.vs_feed.proofs.Packs.{next_input, window, input_fed}
use Rattle.vs_feed.proofs.column.feed_inputs.Goals as goal

pub overflow_add-first : goal.overflow_add-first
overflow_add-first g c =
    let next = next_input (length c.args.pairs.now) c.loop-input.input c.len-count.result c.loop-input.first c.args.stimuli.now c.vector-value-items.result.now c.value-item.result c.index-stimuli-0.result
    c.requires.some c.requires.lanes c.requires.bits c.index-stimuli-0.is c.vector-value-items.ensures c.loop-input-test.true c.value-item.is c.len-count.ensures.length c.loop-input.invariant.first in
    omega (arith, next.room)

pub slice_bounds-feed_input-end : goal.slice_bounds-feed_input-end
slice_bounds-feed_input-end g c =
    let next = next_input (length c.args.pairs.now) c.loop-input.input c.len-count.result c.loop-input.first c.args.stimuli.now c.vector-value-items.result.now c.value-item.result c.index-stimuli-0.result
    c.requires.some c.requires.lanes c.requires.bits c.index-stimuli-0.is c.vector-value-items.ensures c.loop-input-test.true c.value-item.is c.len-count.ensures.length c.loop-input.invariant.first in
    let room : c.loop-input.first + c.len-count.result ≤ length c.loop-input.pairs = omega (arith, next.room, c.loop-input.auto.pairs) in
    room

pub feed_input-requires-clause-input : goal.feed_input-requires-clause-input
feed_input-requires-clause-input g c =
    let next = next_input (length c.args.pairs.now) c.loop-input.input c.len-count.result c.loop-input.first c.args.stimuli.now c.vector-value-items.result.now c.value-item.result c.index-stimuli-0.result
    c.requires.some c.requires.lanes c.requires.bits c.index-stimuli-0.is c.vector-value-items.ensures c.loop-input-test.true c.value-item.is c.len-count.ensures.length c.loop-input.invariant.first in
    let long = window c.loop-input.pairs c.loop-input.first (c.loop-input.first + c.len-count.result - c.loop-input.first) c.len-count.result (omega arith) (omega (arith, next.room, c.loop-input.auto.pairs)) in
    subst (λ (n : ℕ). IsWide c.loop-input.input n c.args.stimuli.now) (sym long) next.wide

pub loop-input-preserved : goal.loop-input-preserved
loop-input-preserved g c =
    let ks = c.args.stimuli.now in
    let pairs = c.loop-input.pairs in
    let input = c.loop-input.input in
    let first = c.loop-input.first in
    let count = c.len-count.result in
    let m : ℕ = first + count - first in
    let bits : HaveBits (length pairs) ks = subst (λ (n : ℕ). HaveBits n ks) (sym c.loop-input.auto.pairs) c.requires.bits in
    let next = next_input (length pairs) input count first ks c.vector-value-items.result.now c.value-item.result c.index-stimuli-0.result
    c.requires.some c.requires.lanes bits c.index-stimuli-0.is c.vector-value-items.ensures c.loop-input-test.true c.value-item.is c.len-count.ensures.length c.loop-input.invariant.first in
    let long = window pairs first m count (omega arith) next.room in
    record {
      first = next.next;
      fed = input_fed g.W.Word.lane g.W.Word.LANES first count input m ks pairs c.feed_input.new.pairs bits next (omega arith) (c.feed_input.ensures.count ∙ long)
          (λ i h. c.feed_input.ensures.packed i h ∙ ap (λ (n : ℕ). driven_value n (lane_at ks i) input) long) c.loop-input.invariant.fed;
    }

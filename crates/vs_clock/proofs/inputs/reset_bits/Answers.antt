use Rattle.std.proofs.Common.{◌≡◌, ◌+◌, ℕ, List, Vec, Global, map, take, sym, ap, ◌∙◌, subst}
use Rattle.std.specs.List.{filter_map}
use Rattle.vs_flat.specs.DesignOf.{arena_signals}
use Rattle.vs_flat.specs.Trees.{signal_at}
use Rattle.vs_clock.specs.Inputs.{reset_bit}
use Rattle.vs_clock.proofs.Finding.{bit_added, bit_left, bits_whole, input_there}
use Rattle.vs_clock.proofs.inputs.reset_bits.Goals as goal
use Rattle.vs_clock.proofs.inputs.reset_bits.Goals.{in-Some+in_ok-push-in-Some, in-None}

pub bit_for_reset-requires : goal.bit_for_reset-requires
bit_for_reset-requires c = input_there c.args.flat.now c.top_inputs-signal-items.result.now c.loop-signal.signal-index c.top_inputs-signal-items.ensures c.loop-signal-test.true

pub loop-signal-preserved : goal.loop-signal-preserved
loop-signal-preserved c =
    let f = signal_at (arena_signals c.args.flat.now) in
    let P : List ℕ → Type 0 = λ bits. bits ≡ filter_map (reset_bit c.args.clocks.now) (map f (take (c.loop-signal.signal-index + 1) c.top_inputs-signal-items.result.now)) in
    elim c.match-bit_for_reset.branch [
      | in-Some+in_ok-push-in-Some w ↦ subst P (sym (ap (λ (v : Vec ℕ Global). v.items) w.bits-is ∙ w.in_ok-push-in-Some.ensures.items)) (bit_added (reset_bit c.args.clocks.now) f c.top_inputs-signal-items.result.now c.loop-signal.signal-index _ c.loop-signal.bits.items c.loop-signal-test.true c.loop-signal.invariant w.in-Some.ensures)
      | in-None w ↦ subst P (sym (ap (λ (v : Vec ℕ Global). v.items) w.bits-is)) (bit_left (reset_bit c.args.clocks.now) f c.top_inputs-signal-items.result.now c.loop-signal.signal-index c.loop-signal.bits.items c.loop-signal-test.true c.loop-signal.invariant w.in-None.ensures)
    ]

pub returns : goal.returns
returns c = bits_whole c.trees_law.ensures.inputs c.args.flat.now c.args.clocks.now c.top_inputs-signal-items.result.now c.loop-signal.signal-index c.loop-signal.bits.items c.top_inputs-signal-items.ensures c.loop-signal-test.false c.loop-signal.invariant

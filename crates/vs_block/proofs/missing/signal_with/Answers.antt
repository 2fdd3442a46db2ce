use Rattle.std.proofs.Common.{◌≡◌, ◌<◌, false, length, sym, ap, ◌∙◌, arith, below_more}
use Rattle.vs_flat.specs.Trees.{signal_at, no_signal}
use Rattle.vs_design.specs.Expressions as E
use Rattle.vs_design.specs.Footprints.{contains}
use Rattle.vs_design.specs.Values.{bits_of_signal}
use Rattle.vs_flat.specs.DesignOf.{arena_signals}
use Rattle.vs_block.proofs.Signals.{signal_is, no_signal_is}
use Rattle.vs_block.proofs.missing.signal_with.Goals as goal

pub loop-n-preserved : goal.loop-n-preserved
loop-n-preserved c =
    let a = c.args.flat.now in
    let is = c.trees_law.ensures.signals a c.loop-n.n c.signal.result.now c.signal.ensures in
    below_more (λ q. contains (bits_of_signal (signal_at (arena_signals a) q)) c.args.bit ≡ false) c.loop-n.n c.loop-n.invariant (ap (λ (s : E.Signal). contains (bits_of_signal s) c.args.bit) is ∙ sym c.has_bit.ensures ∙ c.if-has_bit.false)

pub returns-then-has_bit : goal.returns-then-has_bit
returns-then-has_bit c =
    let a = c.args.flat.now in
    let n = c.loop-n.n in
    let is = c.trees_law.ensures.signals a n c.signal.result.now c.signal.ensures in
    let within : n < length (arena_signals a) = omega (arith, (c.trees_law.ensures.counts a).signals, c.signal_count-n-end.ensures.count) in
    sym
    (signal_is (arena_signals a) c.args.bit n no_signal within (ap (λ (s : E.Signal). contains (bits_of_signal s) c.args.bit) is ∙ sym c.has_bit.ensures ∙ c.if-has_bit.true) c.loop-n.invariant
    ∙ ap (λ (s : E.Signal). s.number) is)

pub returns : goal.returns
returns c =
    let a = c.args.flat.now in
    sym (no_signal_is (arena_signals a) c.args.bit no_signal (λ q l. c.loop-n.invariant q (omega (arith, l, (c.trees_law.ensures.counts a).signals, c.signal_count-n-end.ensures.count))))

use Rattle.std.proofs.Common.{◌≡◌, ◌<◌, false, length, sym, ap, ◌∙◌, arith, below_more}
use Rattle.vs_flat.specs.Trees.{signal_at, no_signal}
use Rattle.vs_design.specs.Expressions as E
use Rattle.vs_flat.specs.DesignOf.{arena_signals}
use Rattle.vs_names.specs.Names as spec
use Rattle.vs_names.proofs.Found.{found_at, found_nowhere}
use Rattle.vs_names.proofs.bits.signal_with.Goals as goal

pub loop-n-preserved : goal.loop-n-preserved
loop-n-preserved c =
    let a = c.args.flat.now in
    let is = c.trees_law.ensures.signals a c.loop-n.n c.signal.result.now c.signal.ensures in
    below_more (λ q. spec.has_bit c.args.bit (signal_at (arena_signals a) q) ≡ false) c.loop-n.n c.loop-n.invariant
    (ap (λ (s : E.Signal). spec.has_bit c.args.bit s) is ∙ sym (c.has_bit.ensures c.loop-n.n) ∙ c.if-has_bit.false)

pub returns-then-has_bit : goal.returns-then-has_bit
returns-then-has_bit c =
    let a = c.args.flat.now in
    let n = c.loop-n.n in
    let is = c.trees_law.ensures.signals a n c.signal.result.now c.signal.ensures in
    let within : n < length (arena_signals a) = omega (arith, (c.trees_law.ensures.counts a).signals, c.signal_count-n-end.ensures.count) in (
      omega (arith, c.signal_count-n-end.ensures.count),
      found_at (spec.has_bit c.args.bit) (arena_signals a) n no_signal within
          (ap (λ (s : E.Signal). spec.has_bit c.args.bit s) is ∙ sym (c.has_bit.ensures n) ∙ c.if-has_bit.true) c.loop-n.invariant,
    )

pub returns : goal.returns
returns c =
    let a = c.args.flat.now in
    found_nowhere (spec.has_bit c.args.bit) (arena_signals a) no_signal
    (λ q l. c.loop-n.invariant q (omega (arith, l, (c.trees_law.ensures.counts a).signals, c.signal_count-n-end.ensures.count)))

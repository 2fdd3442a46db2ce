use Rattle.std.proofs.Common.{◌≡◌, ◌<◌, false, length, Option, Some, sym, ap, ◌∙◌, arith, below_more}
use Rattle.std.specs.Prelude.{option_map}
use Rattle.vs_flat.specs.Trees.{signal_at, no_signal}
use Rattle.vs_design.specs.Expressions as E
use Rattle.vs_flat.specs.DesignOf.{arena_signals}
use Rattle.vs_names.specs.Drawn as spec
use Rattle.vs_names.proofs.Found.{found_at, found_nowhere}
use Rattle.vs_names.proofs.bits.port_bits.Goals as goal

pub loop-n-preserved : goal.loop-n-preserved
loop-n-preserved c =
    let a = c.args.flat.now in
    let is = c.trees_law.ensures.signals a c.loop-n.n c.signal-signal.result.now c.signal-signal.ensures in
    below_more (λ q. spec.is_port c.args.name.now (signal_at (arena_signals a) q) ≡ false) c.loop-n.n c.loop-n.invariant
    (ap (λ (s : E.Signal). spec.is_port c.args.name.now s) is ∙ sym (c.is_port.ensures c.loop-n.n) ∙ c.if-is_port.false)

pub returns-then-is_port : goal.returns-then-is_port
returns-then-is_port c =
    let a = c.args.flat.now in
    let n = c.loop-n.n in
    let is = c.trees_law.ensures.signals a n c.signal-signal.result.now c.signal-signal.ensures in
    let within : n < length (arena_signals a) = omega (arith, (c.trees_law.ensures.counts a).signals, c.signal_count-n-end.ensures.count) in
    let found = found_at (spec.is_port c.args.name.now) (arena_signals a) n no_signal within
    (ap (λ (s : E.Signal). spec.is_port c.args.name.now s) is ∙ sym (c.is_port.ensures n) ∙ c.if-is_port.true) c.loop-n.invariant in
    ap Some (c.signal_bits.ensures n ∙ sym (ap E.signal_length is)) ∙ sym (ap (λ (o : Option E.Signal). option_map E.signal_length o) found)

pub returns : goal.returns
returns c =
    let a = c.args.flat.now in
    sym
    (ap (λ (o : Option E.Signal). option_map E.signal_length o)
    (found_nowhere (spec.is_port c.args.name.now) (arena_signals a) no_signal
    (λ q l. c.loop-n.invariant q (omega (arith, l, (c.trees_law.ensures.counts a).signals, c.signal_count-n-end.ensures.count)))))

use Rattle.std.proofs.Common.{◌≡◌, ◌+◌, ℕ, List, ◌++◌, map, drop, sym, ap, subst, arith}
use Rattle.vs_flat.specs.DesignOf.{arena_signals}
use Rattle.vs_program.specs.declared.compiled.Span.{Span}
use Rattle.vs_program.specs.Compiled.{span_of}
use Rattle.vs_assemble.proofs.Signals.{few_bits, spans_more, spans_all}
use Rattle.vs_assemble.proofs.frames.spans.Goals as goal

pub bits_of-length-requires : goal.bits_of-length-requires
bits_of-length-requires c = omega (arith, few_bits c.args.flat.now.signals c.loop-n.n c.signal-signal.result.now c.signal-signal.ensures, c.signal_count-n-end.ensures.bits)

pub loop-n-preserved : goal.loop-n-preserved
loop-n-preserved c =
    let a = c.args.flat.now in
    let span : Span = record { first = c.signal-signal.result.now.first_bit; length = c.bits_of-length.result } in
    subst (λ (xs : List Span). xs ++ map span_of (drop (c.loop-n.n + 1) (arena_signals a)) ≡ map span_of (arena_signals a)) (sym c.in_ok-push.ensures.items)
    (spans_more a c.loop-n.n c.signal-signal.result.now c.loop-n.spans.items span c.signal-signal.ensures
    (ap (λ (n : ℕ). record { first = c.signal-signal.result.now.first_bit; length = n }) c.bits_of-length.ensures) c.loop-n.invariant)

pub returns : goal.returns
returns c = spans_all c.args.flat.now c.loop-n.n c.signal_count-n-end.result c.loop-n.spans.items c.signal_count-n-end.ensures.count c.loop-n-test.false c.loop-n.invariant

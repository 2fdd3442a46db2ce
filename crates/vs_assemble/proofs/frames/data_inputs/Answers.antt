use Rattle.std.proofs.Common.{ℕ, get_or, arith}
use Rattle.vs_program.specs.declared.compiled.Span.{Span}
use Rattle.vs_assemble.proofs.Signals.{span_at, span_low, spans_long, data_more, data_all, added_input, added_none}
use Rattle.vs_assemble.proofs.frames.data_inputs.Goals as goal
use Rattle.vs_assemble.proofs.frames.data_inputs.Goals.{then-signal+in_ok-push_bits, else-signal}

pub bounds-spans-n : goal.bounds-spans-n
bounds-spans-n c = omega (arith, c.loop-n-test.true, c.signal_count-n-end.ensures.count, spans_long c.args.flat.now c.args.spans.now c.requires.spans)

pub push_bits-requires : goal.push_bits-requires
push_bits-requires c =
    let a = c.args.flat.now in
    let n : ℕ = c.loop-n.n in
    let span : Span = get_or c.args.spans.now n (record { first = 0; length = 0 }) in
    span_low a n c.signal.result.now span c.requires.lawful.design.bits_numbered (omega (arith, c.requires.lawful.design.few_bits)) c.signal.ensures
    (span_at a c.args.spans.now n c.signal.result.now (record { first = 0; length = 0 }) c.requires.spans c.signal.ensures)

pub loop-n-preserved : goal.loop-n-preserved
loop-n-preserved c =
    let a = c.args.flat.now in
    let n : ℕ = c.loop-n.n in
    let s = c.signal.result.now in
    let span : Span = get_or c.args.spans.now n (record { first = 0; length = 0 }) in
    data_more c.args.clocks.now a n s c.loop-n.bits.items c.if-signal.bits.items c.signal.ensures
    (elim c.if-signal.branch [
      | then-signal+in_ok-push_bits w ↦
          added_input c.args.clocks.now n s c.loop-n.bits.items c.if-signal.bits.items span w.if-signal.true (span_at a c.args.spans.now n s (record { first = 0; length = 0 }) c.requires.spans c.signal.ensures)
          (cc (w.bits-is, w.in_ok-push_bits.ensures))
      | else-signal w ↦ cc (w.bits-is, added_none c.args.clocks.now n s c.loop-n.bits.items w.if-signal.false)
    ])
    c.loop-n.invariant

pub returns : goal.returns
returns c = data_all c.args.clocks.now c.args.flat.now c.loop-n.n c.signal_count-n-end.result c.loop-n.bits.items c.signal_count-n-end.ensures.count c.loop-n-test.false c.loop-n.invariant

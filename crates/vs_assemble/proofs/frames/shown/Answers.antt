use Rattle.std.proofs.Common.{ℕ, ◌∙◌, ap, get_or, arith}
use Rattle.std.specs.Prelude.{not}
use Rattle.vs_program.specs.declared.compiled.Span.{Span}
use Rattle.vs_assemble.proofs.Signals.{span_at, spans_long, shown_more, shown_all, span_shown, span_left}
use Rattle.vs_assemble.proofs.frames.shown.Goals as goal
use Rattle.vs_assemble.proofs.frames.shown.Goals.{then-is_none+in_ok-push, else-is_none}

pub bounds-spans-n : goal.bounds-spans-n
bounds-spans-n c = omega (arith, c.loop-n-test.true, c.signal_count-n-end.ensures.count, spans_long c.args.flat.now c.args.spans.now c.requires)

pub loop-n-preserved : goal.loop-n-preserved
loop-n-preserved c =
    let a = c.args.flat.now in
    let n : ℕ = c.loop-n.n in
    let s = c.signal.result.now in
    let span : Span = get_or c.args.spans.now n (record { first = 0; length = 0 }) in
    shown_more a n s c.loop-n.shown.items c.if-is_none.shown.items c.signal.ensures
    (elim c.if-is_none.branch [
      | then-is_none+in_ok-push w ↦
          span_shown n s c.loop-n.shown.items c.if-is_none.shown.items span (c.is_none.ensures ∙ ap not w.if-is_none.true) (span_at a c.args.spans.now n s (record { first = 0; length = 0 }) c.requires c.signal.ensures)
          (cc (w.shown-is, w.in_ok-push.ensures.items))
      | else-is_none w ↦ cc (w.shown-is, span_left n s c.loop-n.shown.items (c.is_none.ensures ∙ ap not w.if-is_none.false))
    ])
    c.loop-n.invariant

pub returns : goal.returns
returns c = shown_all c.args.flat.now c.loop-n.n c.signal_count-n-end.result c.loop-n.shown.items c.signal_count-n-end.ensures.count c.loop-n-test.false c.loop-n.invariant

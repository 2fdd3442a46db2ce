use Rattle.std.proofs.Common.{Vec, Global, [], ◌∷◌, ◌++◌, Bool, if◌then◌else◌, ap, ◌∙◌, sym, append-nil}
use Rattle.vs_flat.specs.Trees.{signal_of}
use Rattle.vs_program.specs.declared.compiled.Span.{Span}
use Rattle.vs_program.specs.Compiled.{span_of}
use Rattle.vs_rounds.specs.Inputs.{is_output}
use Rattle.vs_setup.proofs.Signals.{few_output_at, few_spans, more, all}
use Rattle.vs_setup.proofs.inputs.output_spans.Goals as goal
use Rattle.vs_setup.proofs.inputs.output_spans.Goals.{then-is_output+in_ok-push, else-is_output}

pub span_of-requires : goal.span_of-requires
span_of-requires c =
    (few_output_at c.args.flat.now c.args.names.now c.requires c.loop-n.n c.signal-signal.result.now c.signal-signal.ensures (sym (c.is_output.ensures c.loop-n.n) ∙ c.if-is_output.true)).at_most_64

pub loop-n-preserved : goal.loop-n-preserved
loop-n-preserved c =
    let s = c.signal-signal.result.now in
    more span_of (is_output c.args.names.now) c.args.flat.now c.loop-n.n s c.is_output.result c.loop-n.spans.items c.if-is_output.spans.items c.signal-signal.ensures (c.is_output.ensures c.loop-n.n)
    (elim c.if-is_output.branch [
      | then-is_output+in_ok-push w ↦ ap (λ (v : Vec Span Global). v.items) w.spans-is ∙ w.in_ok-push.ensures.items
          ∙ ap (λ (x : Span). c.loop-n.spans.items ++ x ∷ []) (w.span_of.ensures c.loop-n.n)
          ∙ sym (ap (λ (t : Bool). c.loop-n.spans.items ++ (if t then (span_of (signal_of c.loop-n.n s) ∷ []) else [])) w.if-is_output.true)
      | else-is_output w ↦ ap (λ (v : Vec Span Global). v.items) w.spans-is ∙ sym (append-nil c.loop-n.spans.items)
          ∙ sym (ap (λ (t : Bool). c.loop-n.spans.items ++ (if t then (span_of (signal_of c.loop-n.n s) ∷ []) else [])) w.if-is_output.false)
    ])
    c.loop-n.invariant

pub returns-clause-spans : goal.returns-clause-spans
returns-clause-spans c = all span_of (is_output c.args.names.now) c.args.flat.now c.loop-n.n c.signal_count-n-end.result c.loop-n.spans.items c.signal_count-n-end.ensures.count c.loop-n-test.false c.loop-n.invariant

pub returns-clause-few : goal.returns-clause-few
returns-clause-few c = few_spans c.args.names.now c.args.flat.now c.loop-n.spans.items c.requires (returns-clause-spans c)

use Rattle.std.proofs.Common.{Vec, Global, [], ◌∷◌, ◌++◌, Bool, if◌then◌else◌, ap, ◌∙◌, sym, append-nil}
use Rattle.vs_stim.specs.declared.input.Output.{Output}
use Rattle.vs_flat.specs.Trees.{signal_of}
use Rattle.vs_rounds.specs.Inputs.{output_of, is_output}
use Rattle.vs_setup.proofs.Signals.{few_output_at, more, all}
use Rattle.vs_setup.proofs.inputs.outputs_of.Goals as goal
use Rattle.vs_setup.proofs.inputs.outputs_of.Goals.{then-is_output+in_ok-output_of+in_ok-push, else-is_output}

pub output_of-requires : goal.output_of-requires
output_of-requires c =
    (few_output_at c.args.flat.now c.args.names.now c.requires c.loop-n.n c.signal-signal.result.now c.signal-signal.ensures (sym (c.is_output.ensures c.loop-n.n) ∙ c.if-is_output.true)).at_most_64

pub loop-n-preserved : goal.loop-n-preserved
loop-n-preserved c =
    let s = c.signal-signal.result.now in
    more output_of (is_output c.args.names.now) c.args.flat.now c.loop-n.n s c.is_output.result c.loop-n.outputs.items c.if-is_output.outputs.items c.signal-signal.ensures (c.is_output.ensures c.loop-n.n)
    (elim c.if-is_output.branch [
      | then-is_output+in_ok-output_of+in_ok-push w ↦ ap (λ (v : Vec Output Global). v.items) w.outputs-is ∙ w.in_ok-push.ensures.items
          ∙ ap (λ (x : Output). c.loop-n.outputs.items ++ x ∷ []) (w.in_ok-output_of.ensures c.loop-n.n)
          ∙ sym (ap (λ (t : Bool). c.loop-n.outputs.items ++ (if t then (output_of (signal_of c.loop-n.n s) ∷ []) else [])) w.if-is_output.true)
      | else-is_output w ↦ ap (λ (v : Vec Output Global). v.items) w.outputs-is ∙ sym (append-nil c.loop-n.outputs.items)
          ∙ sym (ap (λ (t : Bool). c.loop-n.outputs.items ++ (if t then (output_of (signal_of c.loop-n.n s) ∷ []) else [])) w.if-is_output.false)
    ])
    c.loop-n.invariant

pub returns : goal.returns
returns c = all output_of (is_output c.args.names.now) c.args.flat.now c.loop-n.n c.signal_count-n-end.result c.loop-n.outputs.items c.signal_count-n-end.ensures.count c.loop-n-test.false c.loop-n.invariant

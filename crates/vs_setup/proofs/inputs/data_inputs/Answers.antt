use Rattle.std.proofs.Common.{Vec, Global, [], ◌∷◌, ◌++◌, Bool, if◌then◌else◌, ap, ◌∙◌, sym, append-nil}
use Rattle.vs_stim.specs.declared.input.Input.{Input}
use Rattle.vs_flat.specs.Trees.{signal_of}
use Rattle.vs_rounds.specs.Inputs.{input_of, is_data_input}
use Rattle.vs_setup.proofs.Signals.{few_bits_at, more, all}
use Rattle.vs_setup.proofs.inputs.data_inputs.Goals as goal
use Rattle.vs_setup.proofs.inputs.data_inputs.Goals.{then-is_data_input+in_ok-input_of+in_ok-push, else-is_data_input}

pub input_of-requires : goal.input_of-requires
input_of-requires c =
    (few_bits_at c.args.flat.now c.args.clocks.now c.requires c.loop-n.n c.signal-signal.result.now c.signal-signal.ensures (sym (c.is_data_input.ensures c.loop-n.n) ∙ c.if-is_data_input.true)).at_most_64

pub loop-n-preserved : goal.loop-n-preserved
loop-n-preserved c =
    let s = c.signal-signal.result.now in
    more (input_of c.args.resets.now c.args.selects.now) (is_data_input c.args.clocks.now) c.args.flat.now c.loop-n.n s c.is_data_input.result c.loop-n.inputs.items c.if-is_data_input.inputs.items c.signal-signal.ensures (c.is_data_input.ensures c.loop-n.n)
    (elim c.if-is_data_input.branch [
      | then-is_data_input+in_ok-input_of+in_ok-push w ↦ ap (λ (v : Vec Input Global). v.items) w.inputs-is ∙ w.in_ok-push.ensures.items
          ∙ ap (λ (x : Input). c.loop-n.inputs.items ++ x ∷ []) (w.in_ok-input_of.ensures c.loop-n.n)
          ∙ sym (ap (λ (t : Bool). c.loop-n.inputs.items ++ (if t then (input_of c.args.resets.now c.args.selects.now (signal_of c.loop-n.n s) ∷ []) else [])) w.if-is_data_input.true)
      | else-is_data_input w ↦ ap (λ (v : Vec Input Global). v.items) w.inputs-is ∙ sym (append-nil c.loop-n.inputs.items)
          ∙ sym (ap (λ (t : Bool). c.loop-n.inputs.items ++ (if t then (input_of c.args.resets.now c.args.selects.now (signal_of c.loop-n.n s) ∷ []) else [])) w.if-is_data_input.false)
    ])
    c.loop-n.invariant

pub returns : goal.returns
returns c = all (input_of c.args.resets.now c.args.selects.now) (is_data_input c.args.clocks.now) c.args.flat.now c.loop-n.n c.signal_count-n-end.result c.loop-n.inputs.items c.signal_count-n-end.ensures.count c.loop-n-test.false c.loop-n.invariant

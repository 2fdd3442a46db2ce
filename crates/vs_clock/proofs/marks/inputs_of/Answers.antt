use Rattle.std.proofs.Common.{List, Bool, Result, Ok, Err, false, filter, ap, ◌∙◌}
use Rattle.std.specs.Prelude.{IfOk, slice_index_or}
use Rattle.vs_clock.proofs.Resetting.{inputs_are}
use Rattle.vs_clock.proofs.marks.inputs_of.Goals as goal

if_ok : {V W : Type 0} {P Q : V → Type 0} (r : Result V W) → IfOk r P → ((v : V) → P v → Q v) → IfOk r Q
if_ok (Ok v) h k = k v h
if_ok (Err e) h k = h

pub returns : goal.returns
returns c = λ n a h. if_ok c.marked.result c.marked.ensures (λ v e.
    e ∙ ap (filter (λ b. slice_index_or c.as_slice.result.now b false)) (c.inputs.ensures ∙ a.inputs)
    ∙ inputs_are c.args.flat.now n c.args.resets.now (λ b. slice_index_or c.as_slice.result.now b false) h
    (λ b. ap (λ (ms : List Bool). slice_index_or ms b false) c.as_slice.ensures.value ∙ c.in_ok-marks.ensures b))

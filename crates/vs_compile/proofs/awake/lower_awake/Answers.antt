use Rattle.std.proofs.Common.{◌++◌, List, Result, Ok, Err, refl, sym, ap, ◌∙◌}
use Rattle.std.specs.Prelude.{OnOk}
use Rattle.vs_code.specs.Calls.{Call}
use Rattle.vs_compile.specs.Laid.{table_layout}
use Rattle.vs_compile.proofs.awake.lower_awake.Goals as goal

on_ok : {V W : Type 0} {P Q : Type 0} (r : Result V W) → OnOk r P → (P → Q) → OnOk r Q
on_ok (Ok v) h k = k h
on_ok (Err e) h k = h

pub returns : goal.returns
returns c =
    on_ok c.process-done.result c.process-done.ensures
    (λ done x at.
    let adds = done (table_layout c.args.count c.args.shadows.now c.args.first_temp) x at
    (record { bits_are = c.requires.count; temps_are = sym c.from-code.ensures.next; layout = c.requires.layout; are = λ b k. refl }) in
    (adds.calls, c.into_program.ensures ∙ adds.is ∙ ap (λ (cs : List Call). cs ++ adds.calls) (c.from-code.ensures.calls ∙ c.replace-calls.ensures.value), adds.lowered))

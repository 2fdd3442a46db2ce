use Rattle.std.proofs.Common.{◌++◌, Bool, List, Result, Ok, Err, sym, ap, ◌∙◌, subst}
use Rattle.std.specs.Prelude.{OnOk}
use Rattle.vs_flat.specs.Arena.{bit_count}
use Rattle.vs_clock.specs.Resets.{plain_branch, plain_reset}
use Rattle.vs_code.specs.Calls.{Call}
use Rattle.vs_lower.specs.Resetting.{HasResetRoom, IsResetOf}
use Rattle.vs_compile.specs.Resets.{falls}
use Rattle.vs_compile.proofs.Branches.{ready_as}
use Rattle.vs_compile.proofs.resetting.lower_branch.Goals as goal

on_ok : {V W : Type 0} {P Q : Type 0} (r : Result V W) → OnOk r P → (P → Q) → OnOk r Q
on_ok (Ok v) h k = k h
on_ok (Err e) h k = h

pub reset-done-requires-clause-ready : goal.reset-done-requires-clause-ready
reset-done-requires-clause-ready c =
    ready_as (bit_count c.args.templates.now.arena.signals) c.from-code.result c.args.program.now c.args.first_temp (falls c.args.reset.edge) c.falls.result c.args.reset.input (plain_branch c.args.templates.now.arena c.args.reset)
    (c.from-code.ensures.calls ∙ c.replace-calls.ensures.value) c.from-code.ensures.next c.falls.ensures c.requires.ready

pub returns : goal.returns
returns c =
    on_ok c.reset-done.result c.reset-done.ensures
    (λ done l x bits first is room.
    let r = plain_reset c.args.templates.now.arena c.args.reset in
    let st = plain_branch c.args.templates.now.arena c.args.reset in
    let low = sym c.falls.ensures in
    let adds = done l r x bits (first ∙ sym c.from-code.ensures.next) (subst (λ (b : Bool). IsResetOf r b c.args.reset.input st) low is) (subst (λ (b : Bool). HasResetRoom x b c.args.reset.input st) low room) in
    record {
      calls = adds.calls;
      is = c.into_program.ensures ∙ adds.is ∙ ap (λ (cs : List Call). cs ++ adds.calls) (c.from-code.ensures.calls ∙ c.replace-calls.ensures.value);
      lowered = adds.lowered;
    })

use Rattle.std.proofs.Common.{◌∙◌, ◌+◌, ◌≤◌, ◌^◌, ◌++◌, [], ◌∷◌, Result, Ok, Err, ap, sym, subst}
use Rattle.std.specs.Prelude.{OnOk}
use Rattle.vs_code.specs.Calls.{Call, IsCall, call_cost, length_of}
use Rattle.vs_lower.proofs.Sleeping.{finish_is}
use Rattle.vs_lower.proofs.sleepers.finish.Goals as goal

on_ok : {V W : Type 0} {P Q : Type 0} (r : Result V W) → OnOk r P → (P → Q) → OnOk r Q
on_ok (Ok v) h k = k h
on_ok (Err e) h k = h

pub store-requires-clause-is : goal.store-requires-clause-is
store-requires-clause-is c =
    let call = finish_is c.args.mask c.args.bits.now c.args.now.items c.in_ok-args.args c.in_ok-to.to.items c.in_ok-condition.condition.items c.in_ok-other.other.items c.in_ok-args.ensures c.in_ok-condition.ensures c.in_ok-other.ensures c.in_ok-to.ensures in
    subst IsCall (sym call) c.requires.call

pub store-requires-clause-few : goal.store-requires-clause-few
store-requires-clause-few c =
    let call = finish_is c.args.mask c.args.bits.now c.args.now.items c.in_ok-args.args c.in_ok-to.to.items c.in_ok-condition.condition.items c.in_ok-other.other.items c.in_ok-args.ensures c.in_ok-condition.ensures c.in_ok-other.ensures c.in_ok-to.ensures in
    subst (λ (x : Call). length_of c.args.code.now.calls + call_cost x ≤ 2 ^ 32) (sym call) c.requires.few

pub returns : goal.returns
returns c =
    let call = finish_is c.args.mask c.args.bits.now c.args.now.items c.in_ok-args.args c.in_ok-to.to.items c.in_ok-condition.condition.items c.in_ok-other.other.items c.in_ok-args.ensures c.in_ok-condition.ensures c.in_ok-other.ensures c.in_ok-to.ensures in
    on_ok c.store.result c.store.ensures.calls (λ e. e ∙ ap (λ (x : Call). c.args.code.now.calls ++ x ∷ []) call)

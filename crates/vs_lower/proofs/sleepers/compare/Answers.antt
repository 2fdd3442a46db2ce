use Rattle.std.proofs.Common.{◌∙◌, ◌+◌, ◌≤◌, ◌^◌, ◌++◌, [], ◌∷◌, Result, Ok, Err, ap, sym, subst}
use Rattle.std.specs.Prelude.{OnOk}
use Rattle.vs_code.specs.Calls.{Call, IsCall, call_cost, length_of}
use Rattle.vs_lower.proofs.Sleeping.{compare_is}
use Rattle.vs_lower.proofs.sleepers.compare.Goals as goal

on_ok : {V W : Type 0} {P Q : Type 0} (r : Result V W) → OnOk r P → (P → Q) → OnOk r Q
on_ok (Ok v) h k = k h
on_ok (Err e) h k = h

pub store-requires-clause-is : goal.store-requires-clause-is
store-requires-clause-is c =
    let call = compare_is c.args.mask c.args.spare c.args.waits.now c.in_ok-args.args c.in_ok-these.these.items c.in_ok-those.those.items c.in_ok-to.to.items c.in_ok-first.first.items c.in_ok-zero.zero.items c.in_ok-homes.homes.items c.in_ok-unknown.unknown.items
    c.in_ok-args.ensures c.in_ok-these.ensures c.in_ok-those.ensures c.in_ok-first.ensures c.in_ok-zero.ensures c.in_ok-homes.ensures c.in_ok-unknown.ensures c.in_ok-to.ensures in
    subst IsCall (sym call) c.requires.call

pub store-requires-clause-few : goal.store-requires-clause-few
store-requires-clause-few c =
    let call = compare_is c.args.mask c.args.spare c.args.waits.now c.in_ok-args.args c.in_ok-these.these.items c.in_ok-those.those.items c.in_ok-to.to.items c.in_ok-first.first.items c.in_ok-zero.zero.items c.in_ok-homes.homes.items c.in_ok-unknown.unknown.items
    c.in_ok-args.ensures c.in_ok-these.ensures c.in_ok-those.ensures c.in_ok-first.ensures c.in_ok-zero.ensures c.in_ok-homes.ensures c.in_ok-unknown.ensures c.in_ok-to.ensures in
    subst (λ (x : Call). length_of c.args.code.now.calls + call_cost x ≤ 2 ^ 32) (sym call) c.requires.few

pub returns-clause-calls : goal.returns-clause-calls
returns-clause-calls c =
    let call = compare_is c.args.mask c.args.spare c.args.waits.now c.in_ok-args.args c.in_ok-these.these.items c.in_ok-those.those.items c.in_ok-to.to.items c.in_ok-first.first.items c.in_ok-zero.zero.items c.in_ok-homes.homes.items c.in_ok-unknown.unknown.items
    c.in_ok-args.ensures c.in_ok-these.ensures c.in_ok-those.ensures c.in_ok-first.ensures c.in_ok-zero.ensures c.in_ok-homes.ensures c.in_ok-unknown.ensures c.in_ok-to.ensures in
    on_ok c.store.result c.store.ensures.calls (λ e. e ∙ ap (λ (x : Call). c.args.code.now.calls ++ x ∷ []) call)

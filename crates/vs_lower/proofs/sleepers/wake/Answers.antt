use Rattle.std.proofs.Common.{◌∙◌, ◌+◌, ◌≤◌, ◌^◌, ◌++◌, ℕ, List, Result, Ok, Err, ap, sym, subst, append-nil}
use Rattle.std.specs.Prelude.{OnOk}
use Rattle.vs_code.specs.Calls.{Call, IsCall, call_cost, length_of}
use Rattle.vs_reset.specs.Sleepers.{compare_call}
use Rattle.vs_lower.proofs.Sleeping.{none_waits, waking, woken_calls, mask_call_is, mask_room}
use Rattle.vs_lower.proofs.sleepers.wake.Goals as goal

on_ok : {V W : Type 0} {P Q : Type 0} (r : Result V W) → OnOk r P → (P → Q) → OnOk r Q
on_ok (Ok v) h k = k h
on_ok (Err e) h k = h

pub returns-then-is_empty-clause-calls : goal.returns-then-is_empty-clause-calls
returns-then-is_empty-clause-calls c =
    let none = none_waits c.args.mask c.args.code.now.next c.args.waits.now (sym c.is_empty.ensures ∙ c.if-is_empty.true) in
    sym (ap (λ (cs : List Call). c.args.code.now.calls ++ cs) none ∙ append-nil c.args.code.now.calls)

pub compare-requires-clause-call : goal.compare-requires-clause-call
compare-requires-clause-call c =
    let w = waking c.args.mask c.args.code.now.next c.args.waits.now c.args.code.now.calls (sym c.is_empty.ensures ∙ c.if-is_empty.false) c.requires.calls c.requires.few in
    subst (λ (k : ℕ). IsCall (compare_call c.args.mask k c.args.waits.now)) (sym c.next-spare.ensures) w.first

pub compare-requires-clause-few : goal.compare-requires-clause-few
compare-requires-clause-few c =
    let w = waking c.args.mask c.args.code.now.next c.args.waits.now c.args.code.now.calls (sym c.is_empty.ensures ∙ c.if-is_empty.false) c.requires.calls c.requires.few in
    subst (λ (k : ℕ). length_of c.args.code.now.calls + call_cost (compare_call c.args.mask k c.args.waits.now) ≤ 2 ^ 32) (sym c.next-spare.ensures) w.first_few

pub copy-requires-clause-is : goal.copy-requires-clause-is
copy-requires-clause-is c =
    let w = waking c.args.mask c.args.code.now.next c.args.waits.now c.args.code.now.calls (sym c.is_empty.ensures ∙ c.if-is_empty.false) c.requires.calls c.requires.few in
    subst IsCall (sym (mask_call_is c.args.mask c.args.code.now.next c.next-spare.result c.in_ok-from.from.items c.in_ok-to.to.items c.next-spare.ensures c.in_ok-from.ensures c.in_ok-to.ensures)) w.second

pub copy-requires-clause-few : goal.copy-requires-clause-few
copy-requires-clause-few c =
    let w = waking c.args.mask c.args.code.now.next c.args.waits.now c.args.code.now.calls (sym c.is_empty.ensures ∙ c.if-is_empty.false) c.requires.calls c.requires.few in
    mask_room c.args.mask c.args.code.now.next c.next-spare.result c.args.waits.now c.in_ok-from.from.items c.in_ok-to.to.items c.args.code.now.calls c.compare.new.code.calls c.next-spare.ensures c.in_ok-from.ensures c.in_ok-to.ensures c.in_ok-compare.ensures.calls w.second_few

pub returns-clause-calls : goal.returns-clause-calls
returns-clause-calls c =
    let w = waking c.args.mask c.args.code.now.next c.args.waits.now c.args.code.now.calls (sym c.is_empty.ensures ∙ c.if-is_empty.false) c.requires.calls c.requires.few in
    on_ok c.copy.result c.copy.ensures.calls
    (λ e. woken_calls c.args.mask c.args.code.now.next c.next-spare.result c.args.waits.now c.in_ok-from.from.items c.in_ok-to.to.items c.args.code.now.calls c.compare.new.code.calls c.copy.new.self.calls c.next-spare.ensures c.in_ok-from.ensures c.in_ok-to.ensures
    c.in_ok-compare.ensures.calls e w.are)

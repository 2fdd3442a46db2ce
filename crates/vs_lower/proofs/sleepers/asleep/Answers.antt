use Rattle.std.proofs.Common.{◌∙◌, ◌++◌, [], ◌∷◌, ℕ, List, Result, Ok, Err, ap, sym, subst}
use Rattle.std.specs.Prelude.{OnOk}
use Rattle.vs_flat.specs.Arena.{bit_count}
use Rattle.vs_shape.specs.Bodies.{body_of}
use Rattle.vs_reset.specs.Sleepers.{finish_call}
use Rattle.vs_lower.specs.Asleep.{AddsBody}
use Rattle.vs_lower.proofs.Sleeping.{adds_sleeper, can_finish, can_wake, has_parts, on_slice}
use Rattle.vs_lower.proofs.sleepers.asleep.Goals as goal

on_ok : {V W : Type 0} {P Q : Type 0} (r : Result V W) → OnOk r P → (P → Q) → OnOk r Q
on_ok (Ok v) h k = k h
on_ok (Err e) h k = h

pub wake-requires-clause-inside : goal.wake-requires-clause-inside
wake-requires-clause-inside c = (can_wake c.sleeper_law.ensures.wake (bit_count c.args.templates.now.arena.signals) c.args.code.now c.args.mask c.args.waits.now (body_of c.args.templates.now.arena c.args.s) c.requires.ready).homes_fit

pub wake-requires-clause-calls : goal.wake-requires-clause-calls
wake-requires-clause-calls c = (can_wake c.sleeper_law.ensures.wake (bit_count c.args.templates.now.arena.signals) c.args.code.now c.args.mask c.args.waits.now (body_of c.args.templates.now.arena c.args.s) c.requires.ready).calls

pub wake-requires-clause-few : goal.wake-requires-clause-few
wake-requires-clause-few c = (can_wake c.sleeper_law.ensures.wake (bit_count c.args.templates.now.arena.signals) c.args.code.now c.args.mask c.args.waits.now (body_of c.args.templates.now.arena c.args.s) c.requires.ready).few

pub settled-requires-clause-ready : goal.settled-requires-clause-ready
settled-requires-clause-ready c =
    (has_parts (bit_count c.args.templates.now.arena.signals) c.args.code.now c.wake.new.code c.args.mask c.args.waits.now c.in_ok-bits.bits.items (body_of c.args.templates.now.arena c.args.s) c.requires.ready
    c.in_ok-wake.ensures.calls c.in_ok-wake.ensures.next c.in_ok-bits.ensures.rising c.in_ok-bits.ensures.same).ready

pub settled-requires-clause-inside : goal.settled-requires-clause-inside
settled-requires-clause-inside c =
    let n = bit_count c.args.templates.now.arena.signals in
    let st = body_of c.args.templates.now.arena c.args.s in
    let bits = c.in_ok-bits.bits.items in
    (on_slice n c.args.code.now c.wake.new.code c.args.mask c.args.waits.now bits c.as_slice.result.now st c.as_slice.ensures.value
    (has_parts n c.args.code.now c.wake.new.code c.args.mask c.args.waits.now bits st c.requires.ready c.in_ok-wake.ensures.calls c.in_ok-wake.ensures.next c.in_ok-bits.ensures.rising c.in_ok-bits.ensures.same)).inside

pub settled-requires-clause-some : goal.settled-requires-clause-some
settled-requires-clause-some c =
    let n = bit_count c.args.templates.now.arena.signals in
    let st = body_of c.args.templates.now.arena c.args.s in
    let bits = c.in_ok-bits.bits.items in
    (on_slice n c.args.code.now c.wake.new.code c.args.mask c.args.waits.now bits c.as_slice.result.now st c.as_slice.ensures.value
    (has_parts n c.args.code.now c.wake.new.code c.args.mask c.args.waits.now bits st c.requires.ready c.in_ok-wake.ensures.calls c.in_ok-wake.ensures.next c.in_ok-bits.ensures.rising c.in_ok-bits.ensures.same)).some

pub settled-requires-clause-few : goal.settled-requires-clause-few
settled-requires-clause-few c =
    let n = bit_count c.args.templates.now.arena.signals in
    let st = body_of c.args.templates.now.arena c.args.s in
    let bits = c.in_ok-bits.bits.items in
    (on_slice n c.args.code.now c.wake.new.code c.args.mask c.args.waits.now bits c.as_slice.result.now st c.as_slice.ensures.value
    (has_parts n c.args.code.now c.wake.new.code c.args.mask c.args.waits.now bits st c.requires.ready c.in_ok-wake.ensures.calls c.in_ok-wake.ensures.next c.in_ok-bits.ensures.rising c.in_ok-bits.ensures.same)).few

pub finish-requires-clause-inside : goal.finish-requires-clause-inside
finish-requires-clause-inside c =
    let n = bit_count c.args.templates.now.arena.signals in
    let st = body_of c.args.templates.now.arena c.args.s in
    let bits = c.in_ok-bits.bits.items in
    (on_slice n c.args.code.now c.wake.new.code c.args.mask c.args.waits.now bits c.as_slice-2.result.now st c.as_slice-2.ensures.value
    (has_parts n c.args.code.now c.wake.new.code c.args.mask c.args.waits.now bits st c.requires.ready c.in_ok-wake.ensures.calls c.in_ok-wake.ensures.next c.in_ok-bits.ensures.rising c.in_ok-bits.ensures.same)).homes_fit

pub finish-requires-clause-call : goal.finish-requires-clause-call
finish-requires-clause-call c =
    let n = bit_count c.args.templates.now.arena.signals in
    let st = body_of c.args.templates.now.arena c.args.s in
    let bits = c.in_ok-bits.bits.items in
    let now = c.in_ok-now.now.items in
    let slice = c.as_slice-2.result.now in
    let parts = on_slice n c.args.code.now c.wake.new.code c.args.mask c.args.waits.now bits slice st c.as_slice-2.ensures.value
    (has_parts n c.args.code.now c.wake.new.code c.args.mask c.args.waits.now bits st c.requires.ready c.in_ok-wake.ensures.calls c.in_ok-wake.ensures.next c.in_ok-bits.ensures.rising c.in_ok-bits.ensures.same) in
    let body = subst (λ (xs : List ℕ). AddsBody n c.wake.new.code c.settled.new.code st xs now) (c.as_slice.ensures.value ∙ sym c.as_slice-2.ensures.value) c.in_ok-now.ensures in
    (can_finish c.sleeper_law.ensures.finish n c.args.code.now c.wake.new.code c.settled.new.code c.args.mask c.args.waits.now slice now st c.requires.ready c.in_ok-wake.ensures.calls c.in_ok-wake.ensures.next parts body).call

pub finish-requires-clause-few : goal.finish-requires-clause-few
finish-requires-clause-few c =
    let n = bit_count c.args.templates.now.arena.signals in
    let st = body_of c.args.templates.now.arena c.args.s in
    let bits = c.in_ok-bits.bits.items in
    let now = c.in_ok-now.now.items in
    let slice = c.as_slice-2.result.now in
    let parts = on_slice n c.args.code.now c.wake.new.code c.args.mask c.args.waits.now bits slice st c.as_slice-2.ensures.value
    (has_parts n c.args.code.now c.wake.new.code c.args.mask c.args.waits.now bits st c.requires.ready c.in_ok-wake.ensures.calls c.in_ok-wake.ensures.next c.in_ok-bits.ensures.rising c.in_ok-bits.ensures.same) in
    let body = subst (λ (xs : List ℕ). AddsBody n c.wake.new.code c.settled.new.code st xs now) (c.as_slice.ensures.value ∙ sym c.as_slice-2.ensures.value) c.in_ok-now.ensures in
    (can_finish c.sleeper_law.ensures.finish n c.args.code.now c.wake.new.code c.settled.new.code c.args.mask c.args.waits.now slice now st c.requires.ready c.in_ok-wake.ensures.calls c.in_ok-wake.ensures.next parts body).few

pub returns : goal.returns
returns c =
    on_ok c.finish.result c.finish.ensures
    (λ finished l place star events hb hf comb.
    let n = bit_count c.args.templates.now.arena.signals in
    let st = body_of c.args.templates.now.arena c.args.s in
    let bits = c.in_ok-bits.bits.items in
    let now = c.in_ok-now.now.items in
    let parts = has_parts n c.args.code.now c.wake.new.code c.args.mask c.args.waits.now bits st c.requires.ready c.in_ok-wake.ensures.calls c.in_ok-wake.ensures.next c.in_ok-bits.ensures.rising c.in_ok-bits.ensures.same in
    let body = subst (λ (xs : List ℕ). AddsBody n c.wake.new.code c.settled.new.code st xs now) c.as_slice.ensures.value c.in_ok-now.ensures in
    adds_sleeper l place star events n c.args.code.now c.wake.new.code c.settled.new.code c.finish.new.code c.args.mask c.args.waits.now bits now st hb hf comb c.requires.ready c.in_ok-wake.ensures.calls c.in_ok-wake.ensures.next parts
    c.in_ok-bits.ensures.same body (finished ∙ ap (λ (xs : List ℕ). c.settled.new.code.calls ++ finish_call c.args.mask xs now ∷ []) c.as_slice-2.ensures.value))

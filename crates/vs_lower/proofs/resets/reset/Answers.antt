use Rattle.std.proofs.Common.{◌≡◌, ◌∙◌, ◌++◌, ℕ, List, sym, ap, map, slice_index, length, subst}
use Rattle.std.proofs.lemmas.List.FromFn.{length-range_with_len}
use Rattle.vs_code.specs.Calls.{Call}
use Rattle.vs_flat.specs.Arena.{bit_count}
use Rattle.vs_shape.specs.Bodies.{body_of}
use Rattle.vs_values.specs.Environments.{homes}
use Rattle.vs_lower.specs.Copies.{home_copies}
use Rattle.vs_values.specs.Ready.{IsReady}
use Rattle.vs_lower.specs.Resetting.{reset_condition}
use Rattle.vs_lower.proofs.Resetting.{Resetting, adds_reset, branch_ready, condition_ready, home_at_steps, joined_as, reset_callable, reset_few, reset_goes_home, reset_inside, resetting_at, value_at}
use Rattle.vs_lower.proofs.resets.reset.Goals as goal

pub active-requires-clause-ready : goal.active-requires-clause-ready
active-requires-clause-ready c =
    let n = bit_count c.args.templates.now.arena.signals in
    subst (λ (m : ℕ). IsReady (homes m) c.args.code.now (reset_condition c.args.falls c.args.input) 1) (sym c.requires.count) (condition_ready n c.args.code.now c.args.falls c.args.input (body_of c.args.templates.now.arena c.args.s) c.requires.ready)

pub next_values-requires-clause-ready : goal.next_values-requires-clause-ready
next_values-requires-clause-ready c =
    let n = bit_count c.args.templates.now.arena.signals in
    let tc = c.in_ok-condition.condition.items in
    branch_ready n c.args.falls c.args.input (body_of c.args.templates.now.arena c.args.s) c.args.code.now c.active.new.code tc c.requires.ready (value_at n c.args.count c.args.code.now c.active.new.code c.args.falls c.args.input tc c.requires.count c.in_ok-condition.ensures)

pub picked-requires : goal.picked-requires
picked-requires c =
    let n = bit_count c.args.templates.now.arena.signals in
    let st = body_of c.args.templates.now.arena c.args.s in
    let tc = c.in_ok-condition.condition.items in
    let c0 = c.args.code.now in
    let c1 = c.active.new.code in
    let c2 = c.next_values.new.code in
    let env = c.in_ok-next.next in
    let bits = c.in_ok-bits.bits.items in
    let t = resetting_at n c.args.count c.args.falls c.args.input st c0 c1 c2 tc env bits c.requires.count c.requires.ready c.in_ok-condition.ensures c.in_ok-next.ensures c.in_ok-bits.ensures.rising c.in_ok-bits.ensures.same in
    reset_inside n c.args.falls c.args.input st c0 c1 c2 tc env bits t (length env) t.adds.next.long c.as_slice.result.now c.as_slice.ensures.value

pub join-requires-clause-inside : goal.join-requires-clause-inside
join-requires-clause-inside c =
    let n = bit_count c.args.templates.now.arena.signals in
    let st = body_of c.args.templates.now.arena c.args.s in
    let tc = c.in_ok-condition.condition.items in
    let c0 = c.args.code.now in
    let c1 = c.active.new.code in
    let c2 = c.next_values.new.code in
    let env = c.in_ok-next.next in
    let bits = c.in_ok-bits.bits.items in
    let t = resetting_at n c.args.count c.args.falls c.args.input st c0 c1 c2 tc env bits c.requires.count c.requires.ready c.in_ok-condition.ensures c.in_ok-next.ensures c.in_ok-bits.ensures.rising c.in_ok-bits.ensures.same in
    reset_inside n c.args.falls c.args.input st c0 c1 c2 tc env bits t (length c.at_home-after.result) (ap (λ (xs : List ℕ). length xs) c.at_home-after.ensures ∙ length-range_with_len 4 c.args.count ∙ c.requires.count) c.as_slice-2.result.now c.as_slice-2.ensures.value

pub join-requires-clause-few : goal.join-requires-clause-few
join-requires-clause-few c =
    let n = bit_count c.args.templates.now.arena.signals in
    let st = body_of c.args.templates.now.arena c.args.s in
    let tc = c.in_ok-condition.condition.items in
    let c0 = c.args.code.now in
    let c1 = c.active.new.code in
    let c2 = c.next_values.new.code in
    let env = c.in_ok-next.next in
    let bits = c.in_ok-bits.bits.items in
    let t = resetting_at n c.args.count c.args.falls c.args.input st c0 c1 c2 tc env bits c.requires.count c.requires.ready c.in_ok-condition.ensures c.in_ok-next.ensures c.in_ok-bits.ensures.rising c.in_ok-bits.ensures.same in
    reset_few n c.args.falls c.args.input st c0 c1 c2 tc env bits t c.as_slice-2.result.now c.as_slice-2.ensures.value

pub join-requires-clause-call : goal.join-requires-clause-call
join-requires-clause-call c =
    let n = bit_count c.args.templates.now.arena.signals in
    let st = body_of c.args.templates.now.arena c.args.s in
    let tc = c.in_ok-condition.condition.items in
    let c0 = c.args.code.now in
    let c1 = c.active.new.code in
    let c2 = c.next_values.new.code in
    let env = c.in_ok-next.next in
    let bits = c.in_ok-bits.bits.items in
    let t = resetting_at n c.args.count c.args.falls c.args.input st c0 c1 c2 tc env bits c.requires.count c.requires.ready c.in_ok-condition.ensures c.in_ok-next.ensures c.in_ok-bits.ensures.rising c.in_ok-bits.ensures.same in
    let first = c.as_slice-3.ensures.value ∙ c.in_ok-first.ensures ∙ ap (map (slice_index env)) c.as_slice.ensures.value in
    reset_callable n c.args.falls c.args.input st c0 c1 c2 tc env bits t c.as_slice-2.result.now c.as_slice-3.result.now c.at_home-after.result c.as_slice-2.ensures.value first (c.at_home-after.ensures ∙ ap homes c.requires.count)

pub copy_home-requires-clause-long : goal.copy_home-requires-clause-long
copy_home-requires-clause-long c =
    let n = bit_count c.args.templates.now.arena.signals in
    let st = body_of c.args.templates.now.arena c.args.s in
    let tc = c.in_ok-condition.condition.items in
    let c0 = c.args.code.now in
    let c1 = c.active.new.code in
    let c2 = c.next_values.new.code in
    let env = c.in_ok-next.next in
    let bits = c.in_ok-bits.bits.items in
    let t = resetting_at n c.args.count c.args.falls c.args.input st c0 c1 c2 tc env bits c.requires.count c.requires.ready c.in_ok-condition.ensures c.in_ok-next.ensures c.in_ok-bits.ensures.rising c.in_ok-bits.ensures.same in
    let c3 = c.join.new.code in
    let env3 = c.join.new.env in
    let first = c.as_slice-3.ensures.value ∙ c.in_ok-first.ensures ∙ ap (map (slice_index env)) c.as_slice.ensures.value in
    let j = joined_as n tc bits env env3 c2 c3 c.as_slice-2.result.now c.as_slice-3.result.now c.at_home-after.result c.as_slice-2.ensures.value first (c.at_home-after.ensures ∙ ap homes c.requires.count) c.in_ok-join.ensures in
    let home = home_at_steps n c.args.count bits c.as_slice-4.result.now env3 c3 c.requires.count c.as_slice-4.ensures.value (reset_goes_home n c.args.falls c.args.input st c0 c1 c2 tc env bits t c3 env3 j) in
    home.long

pub copy_home-requires-clause-inside : goal.copy_home-requires-clause-inside
copy_home-requires-clause-inside c =
    let n = bit_count c.args.templates.now.arena.signals in
    let st = body_of c.args.templates.now.arena c.args.s in
    let tc = c.in_ok-condition.condition.items in
    let c0 = c.args.code.now in
    let c1 = c.active.new.code in
    let c2 = c.next_values.new.code in
    let env = c.in_ok-next.next in
    let bits = c.in_ok-bits.bits.items in
    let t = resetting_at n c.args.count c.args.falls c.args.input st c0 c1 c2 tc env bits c.requires.count c.requires.ready c.in_ok-condition.ensures c.in_ok-next.ensures c.in_ok-bits.ensures.rising c.in_ok-bits.ensures.same in
    let c3 = c.join.new.code in
    let env3 = c.join.new.env in
    let first = c.as_slice-3.ensures.value ∙ c.in_ok-first.ensures ∙ ap (map (slice_index env)) c.as_slice.ensures.value in
    let j = joined_as n tc bits env env3 c2 c3 c.as_slice-2.result.now c.as_slice-3.result.now c.at_home-after.result c.as_slice-2.ensures.value first (c.at_home-after.ensures ∙ ap homes c.requires.count) c.in_ok-join.ensures in
    let home = home_at_steps n c.args.count bits c.as_slice-4.result.now env3 c3 c.requires.count c.as_slice-4.ensures.value (reset_goes_home n c.args.falls c.args.input st c0 c1 c2 tc env bits t c3 env3 j) in
    home.inside

pub copy_home-requires-clause-calls : goal.copy_home-requires-clause-calls
copy_home-requires-clause-calls c =
    let n = bit_count c.args.templates.now.arena.signals in
    let st = body_of c.args.templates.now.arena c.args.s in
    let tc = c.in_ok-condition.condition.items in
    let c0 = c.args.code.now in
    let c1 = c.active.new.code in
    let c2 = c.next_values.new.code in
    let env = c.in_ok-next.next in
    let bits = c.in_ok-bits.bits.items in
    let t = resetting_at n c.args.count c.args.falls c.args.input st c0 c1 c2 tc env bits c.requires.count c.requires.ready c.in_ok-condition.ensures c.in_ok-next.ensures c.in_ok-bits.ensures.rising c.in_ok-bits.ensures.same in
    let c3 = c.join.new.code in
    let env3 = c.join.new.env in
    let first = c.as_slice-3.ensures.value ∙ c.in_ok-first.ensures ∙ ap (map (slice_index env)) c.as_slice.ensures.value in
    let j = joined_as n tc bits env env3 c2 c3 c.as_slice-2.result.now c.as_slice-3.result.now c.at_home-after.result c.as_slice-2.ensures.value first (c.at_home-after.ensures ∙ ap homes c.requires.count) c.in_ok-join.ensures in
    let home = home_at_steps n c.args.count bits c.as_slice-4.result.now env3 c3 c.requires.count c.as_slice-4.ensures.value (reset_goes_home n c.args.falls c.args.input st c0 c1 c2 tc env bits t c3 env3 j) in
    home.calls

pub copy_home-requires-clause-few : goal.copy_home-requires-clause-few
copy_home-requires-clause-few c =
    let n = bit_count c.args.templates.now.arena.signals in
    let st = body_of c.args.templates.now.arena c.args.s in
    let tc = c.in_ok-condition.condition.items in
    let c0 = c.args.code.now in
    let c1 = c.active.new.code in
    let c2 = c.next_values.new.code in
    let env = c.in_ok-next.next in
    let bits = c.in_ok-bits.bits.items in
    let t = resetting_at n c.args.count c.args.falls c.args.input st c0 c1 c2 tc env bits c.requires.count c.requires.ready c.in_ok-condition.ensures c.in_ok-next.ensures c.in_ok-bits.ensures.rising c.in_ok-bits.ensures.same in
    let c3 = c.join.new.code in
    let env3 = c.join.new.env in
    let first = c.as_slice-3.ensures.value ∙ c.in_ok-first.ensures ∙ ap (map (slice_index env)) c.as_slice.ensures.value in
    let j = joined_as n tc bits env env3 c2 c3 c.as_slice-2.result.now c.as_slice-3.result.now c.at_home-after.result c.as_slice-2.ensures.value first (c.at_home-after.ensures ∙ ap homes c.requires.count) c.in_ok-join.ensures in
    let home = home_at_steps n c.args.count bits c.as_slice-4.result.now env3 c3 c.requires.count c.as_slice-4.ensures.value (reset_goes_home n c.args.falls c.args.input st c0 c1 c2 tc env bits t c3 env3 j) in
    home.few

pub returns : goal.returns
returns c l r p hb hf is room =
    let n = bit_count c.args.templates.now.arena.signals in
    let st = body_of c.args.templates.now.arena c.args.s in
    let tc = c.in_ok-condition.condition.items in
    let c0 = c.args.code.now in
    let c1 = c.active.new.code in
    let c2 = c.next_values.new.code in
    let env = c.in_ok-next.next in
    let bits = c.in_ok-bits.bits.items in
    let t = resetting_at n c.args.count c.args.falls c.args.input st c0 c1 c2 tc env bits c.requires.count c.requires.ready c.in_ok-condition.ensures c.in_ok-next.ensures c.in_ok-bits.ensures.rising c.in_ok-bits.ensures.same in
    let c3 = c.join.new.code in
    let env3 = c.join.new.env in
    let first = c.as_slice-3.ensures.value ∙ c.in_ok-first.ensures ∙ ap (map (slice_index env)) c.as_slice.ensures.value in
    let j = joined_as n tc bits env env3 c2 c3 c.as_slice-2.result.now c.as_slice-3.result.now c.at_home-after.result c.as_slice-2.ensures.value first (c.at_home-after.ensures ∙ ap homes c.requires.count) c.in_ok-join.ensures in
    let all : c.args.count ≡ l.bits = c.requires.count ∙ sym hb in
    let copied : home_copies c.args.count c.as_slice-4.result.now env3 ≡ home_copies l.bits bits env3 =
    ap (λ (xs : List ℕ). home_copies c.args.count xs env3) c.as_slice-4.ensures.value ∙ ap (λ (m : ℕ). home_copies m bits env3) all in
    adds_reset l r p c.args.falls c.args.input st c0 c1 c2 c3 c.copy_home.new.code tc env bits env3 hf is room
    (subst (λ (m : ℕ). Resetting m c.args.falls c.args.input st c0 c1 c2 tc env bits) (sym hb) t)
    (joined_as l.bits tc bits env env3 c2 c3 c.as_slice-2.result.now c.as_slice-3.result.now c.at_home-after.result c.as_slice-2.ensures.value first (c.at_home-after.ensures ∙ ap homes all) c.in_ok-join.ensures)
    (c.in_ok-copy_home.ensures.calls ∙ ap (λ (cs : List Call). c3.calls ++ cs) copied)

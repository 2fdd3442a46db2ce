use Rattle.std.proofs.Common.{◌≡◌, ◌∙◌, ◌++◌, ◌<◌, ◌==◌, ℕ, Bool, false, List, [], ◌∷◌, length, sym, ap, subst, arith, eq-eqb, true≢false}
use Rattle.std.specs.List.{All}
use Rattle.std.proofs.lemmas.List.Elements.{All-head, All-weaker}
use Rattle.std.proofs.lemmas.List.FromFn.{length-range_with_len}
use Rattle.vs_code.specs.Calls.{Call, IsCall}
use Rattle.vs_values.specs.Added.{copy_call}
use Rattle.vs_values.specs.Environments.{homes}
use Rattle.vs_lower.specs.Copies.{moved}
use Rattle.vs_lower.specs.Joined.{differing_bits}
use Rattle.vs_lower.proofs.Differing.{bits_within}
use Rattle.vs_lower.proofs.Homing.{some_copies}
use Rattle.vs_lower.proofs.Joining.{picked}
use Rattle.vs_lower.proofs.copies.copy_home.Goals as goal

those_is : (count : ℕ) (start home slice those env bits : List ℕ) → start ≡ homes count → home ≡ picked start bits → slice ≡ home → those ≡ differing_bits bits slice env → those ≡ moved count bits env
those_is count start home slice those env bits a b d e = e ∙ ap (λ (xs : List ℕ). differing_bits bits xs env) (d ∙ b ∙ ap (λ (x : List ℕ). picked x bits) a)

in_homes : (count : ℕ) (start bits : List ℕ) → start ≡ homes count → All (λ b. b < count) bits → All (λ b. b < length start) bits
in_homes count start bits a h =
    subst (λ (x : List ℕ). All (λ b. b < length x) bits) (sym a) (All-weaker (λ b. b < count) (λ b. b < length (homes count)) (λ b l. omega (arith, length-range_with_len 4 count)) bits h)

inside_moved : (count : ℕ) (bits env : List ℕ) → All (λ b. b < count) bits → All (λ b. b < count) (moved count bits env)
inside_moved count bits env h = bits_within (λ b. b < count) bits (picked (homes count) bits) env h

are_some : (n : ℕ) (q : Bool) (js xs : List ℕ) → q ≡ false → q ≡ (n == 0) → length xs ≡ n → xs ≡ js → js ≡ [] → ⊥
are_some n q js xs a b d e f =
    let z : n ≡ 0 = sym d ∙ ap (λ (ys : List ℕ). length ys) (e ∙ f) in
    true≢false (sym (eq-eqb n 0 z) ∙ sym b ∙ a)

call_is : (count : ℕ) (env js start from to ys zs : List ℕ) → start ≡ homes count → from ≡ picked env ys → ys ≡ js → to ≡ picked start zs → zs ≡ js → copy_call from to ≡ copy_call (picked env js) (picked (homes count) js)
call_is count env js start from to ys zs a b d e f =
    ap (λ (x : List ℕ). copy_call x to) (b ∙ ap (picked env) d) ∙ ap (λ (x : List ℕ). copy_call (picked env js) x) (e ∙ ap (picked start) f ∙ ap (λ (x : List ℕ). picked x js) a)

pub picked-requires : goal.picked-requires
picked-requires c = in_homes c.args.count c.at_home-start.result c.args.bits.now c.at_home-start.ensures c.requires.inside

pub picked-requires-2 : goal.picked-requires-2
picked-requires-2 c =
    let env = c.args.env.now in
    let js = moved c.args.count c.args.bits.now env in
    let is = c.as_slice-2.ensures.value ∙ those_is c.args.count c.at_home-start.result c.in_ok-home.home.items c.as_slice.result.now c.in_ok-those.those.items env c.args.bits.now c.at_home-start.ensures c.in_ok-home.ensures c.as_slice.ensures.value c.in_ok-those.ensures in
    subst (All (λ b. b < length env)) (sym is) (All-weaker (λ b. b < c.args.count) (λ b. b < length env) (λ b l. omega (arith, c.requires.long)) js (inside_moved c.args.count c.args.bits.now env c.requires.inside))

pub picked-requires-3 : goal.picked-requires-3
picked-requires-3 c =
    let env = c.args.env.now in
    let js = moved c.args.count c.args.bits.now env in
    let is = c.as_slice-3.ensures.value ∙ those_is c.args.count c.at_home-start.result c.in_ok-home.home.items c.as_slice.result.now c.in_ok-those.those.items env c.args.bits.now c.at_home-start.ensures c.in_ok-home.ensures c.as_slice.ensures.value c.in_ok-those.ensures in
    subst (All (λ b. b < length c.at_home-start.result)) (sym is) (in_homes c.args.count c.at_home-start.result js c.at_home-start.ensures (inside_moved c.args.count c.args.bits.now env c.requires.inside))

pub copy-requires-clause-is : goal.copy-requires-clause-is
copy-requires-clause-is c =
    let env = c.args.env.now in
    let count = c.args.count in
    let js = moved count c.args.bits.now env in
    let those = those_is count c.at_home-start.result c.in_ok-home.home.items c.as_slice.result.now c.in_ok-those.those.items env c.args.bits.now c.at_home-start.ensures c.in_ok-home.ensures c.as_slice.ensures.value c.in_ok-those.ensures in
    let call = call_is count env js c.at_home-start.result c.in_ok-from.from.items c.in_ok-to.to.items c.as_slice-2.result.now c.as_slice-3.result.now c.at_home-start.ensures c.in_ok-from.ensures (c.as_slice-2.ensures.value ∙ those) c.in_ok-to.ensures (c.as_slice-3.ensures.value ∙ those) in
    let some = are_some _ c.is_empty.result js c.as_slice-2.result.now c.if-is_empty.false c.is_empty.ensures c.as_slice-2.ensures.len (c.as_slice-2.ensures.value ∙ those) in
    subst IsCall (sym call) (All-head IsCall (copy_call (picked env js) (picked (homes count) js)) [] (subst (All IsCall) (some_copies env (picked (homes count) js) js some) c.requires.calls))

pub returns-clause-calls : goal.returns-clause-calls
returns-clause-calls c =
    let env = c.args.env.now in
    let count = c.args.count in
    let js = moved count c.args.bits.now env in
    let those = those_is count c.at_home-start.result c.in_ok-home.home.items c.as_slice.result.now c.in_ok-those.those.items env c.args.bits.now c.at_home-start.ensures c.in_ok-home.ensures c.as_slice.ensures.value c.in_ok-those.ensures in
    let call = call_is count env js c.at_home-start.result c.in_ok-from.from.items c.in_ok-to.to.items c.as_slice-2.result.now c.as_slice-3.result.now c.at_home-start.ensures c.in_ok-from.ensures (c.as_slice-2.ensures.value ∙ those) c.in_ok-to.ensures (c.as_slice-3.ensures.value ∙ those) in
    let some = are_some _ c.is_empty.result js c.as_slice-2.result.now c.if-is_empty.false c.is_empty.ensures c.as_slice-2.ensures.len (c.as_slice-2.ensures.value ∙ those) in
    c.in_ok-copy.ensures.calls ∙ ap (λ (x : Call). c.args.code.now.calls ++ x ∷ []) call ∙ ap (λ (x : List Call). c.args.code.now.calls ++ x) (sym (some_copies env (picked (homes count) js) js some))

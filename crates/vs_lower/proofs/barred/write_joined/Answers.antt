use Rattle.std.proofs.Common.{◌≡◌, ◌∙◌, ◌<◌, ℕ, List, [], ◌∷◌, length, slice_index, sym, ap, subst, arith}
use Rattle.std.specs.List.{All}
use Rattle.std.proofs.lemmas.List.{length-map}
use Rattle.std.proofs.lemmas.List.Elements.{All-weaker}
use Rattle.vs_design.specs.Values.{bits_of_signal}
use Rattle.vs_lower.specs.Joined.{IsJoined}
use Rattle.vs_lower.specs.Leaves.{leaf_name, leaf_target, named_signal}
use Rattle.vs_lower.proofs.Barring.{bar_joinable, leaf_covered, leaf_inside, leaf_ready, leaf_weighs, signal_once, writes_barred}
use Rattle.vs_lower.proofs.Joining.{picked}
use Rattle.vs_lower.proofs.barred.write_joined.Goals as goal

pub picked-requires : goal.picked-requires
picked-requires c =
    subst (All (λ b. b < length c.args.env.now)) (sym (c.as_slice.ensures.value ∙ c.in_ok-bits.ensures.are)) (leaf_inside c.args.templates.now.arena (length c.args.env.now) c.args.leaf c.requires.ready.names)

pub write_leaf-requires-clause-names : goal.write_leaf-requires-clause-names
write_leaf-requires-clause-names c = c.requires.ready.names

pub write_leaf-requires-clause-room : goal.write_leaf-requires-clause-room
write_leaf-requires-clause-room c = (leaf_ready c.args.templates.now.arena c.args.env.now c.args.code.now c.args.leaf c.args.index.now c.args.value.now c.args.bar c.requires.ready).room

pub write_leaf-requires-clause-fit : goal.write_leaf-requires-clause-fit
write_leaf-requires-clause-fit c = c.requires.ready.fit

pub write_leaf-requires-clause-long : goal.write_leaf-requires-clause-long
write_leaf-requires-clause-long c = c.requires.ready.long

pub write_leaf-requires-clause-value : goal.write_leaf-requires-clause-value
write_leaf-requires-clause-value c = c.requires.ready.value_below

pub write_leaf-requires-clause-index : goal.write_leaf-requires-clause-index
write_leaf-requires-clause-index c = (leaf_ready c.args.templates.now.arena c.args.env.now c.args.code.now c.args.leaf c.args.index.now c.args.value.now c.args.bar c.requires.ready).index_below

pub write_leaf-requires-clause-indexed : goal.write_leaf-requires-clause-indexed
write_leaf-requires-clause-indexed c = (leaf_ready c.args.templates.now.arena c.args.env.now c.args.code.now c.args.leaf c.args.index.now c.args.value.now c.args.bar c.requires.ready).indexed

pub join-requires-clause-inside : goal.join-requires-clause-inside
join-requires-clause-inside c =
    let n = length c.args.env.now in
    let m = length c.write_leaf.new.env in
    let bits = bits_of_signal (named_signal c.args.templates.now.arena (leaf_name c.args.leaf)) in
    let inside = leaf_inside c.args.templates.now.arena n c.args.leaf c.requires.ready.names in
    subst (All (λ b. b < m)) (sym (c.as_slice-2.ensures.value ∙ c.in_ok-bits.ensures.are)) (All-weaker (λ b. b < n) (λ b. b < m) (λ b l. omega (arith, l, c.in_ok-write_leaf.ensures.written.same_length)) bits inside)

pub join-requires-clause-alike : goal.join-requires-clause-alike
join-requires-clause-alike c =
    ap (λ (xs : List ℕ). length xs) c.as_slice-2.ensures.value
    ∙ ap (λ (xs : List ℕ). length xs) (sym c.as_slice.ensures.value)
    ∙ sym (length-map c.as_slice.result.now (slice_index c.args.env.now))
    ∙ ap (λ (xs : List ℕ). length xs) (sym (c.as_slice-3.ensures.value ∙ c.in_ok-before.ensures))

pub join-requires-clause-few : goal.join-requires-clause-few
join-requires-clause-few c = omega (arith, c.in_ok-bits.ensures.few, ap (λ (xs : List ℕ). length xs) c.as_slice-2.ensures.value)

pub join-requires-clause-call : goal.join-requires-clause-call
join-requires-clause-call c =
    let a = c.args.templates.now.arena in
    let leaf = c.args.leaf in
    let env = c.args.env.now in
    let bits = bits_of_signal (named_signal a (leaf_name leaf)) in
    let first : c.as_slice-3.result.now ≡ picked env bits = c.as_slice-3.ensures.value ∙ c.in_ok-before.ensures ∙ ap (picked env) (c.as_slice.ensures.value ∙ c.in_ok-bits.ensures.are) in
    bar_joinable env c.write_leaf.new.env c.args.code.now c.write_leaf.new.code (leaf_target a leaf) (c.args.index.now ∷ []) c.args.value.now c.args.bar bits c.requires.ready c.in_ok-write_leaf.ensures
    (leaf_weighs a leaf) c.requires.few (signal_once (named_signal a (leaf_name leaf))) (λ b h. leaf_covered a leaf b c.requires.ready.fit h) (leaf_inside a (length env) leaf c.requires.ready.names)
    c.as_slice-2.result.now c.as_slice-3.result.now c.in_ok-condition.condition.items (c.as_slice-2.ensures.value ∙ c.in_ok-bits.ensures.are) first c.in_ok-condition.ensures

pub returns : goal.returns
returns c =
    let a = c.args.templates.now.arena in
    let leaf = c.args.leaf in
    let env = c.args.env.now in
    let env1 = c.write_leaf.new.env in
    let env2 = c.join.new.env in
    let code1 = c.write_leaf.new.code in
    let code2 = c.join.new.code in
    let bits = bits_of_signal (named_signal a (leaf_name leaf)) in
    let first : c.as_slice-3.result.now ≡ picked env bits = c.as_slice-3.ensures.value ∙ c.in_ok-before.ensures ∙ ap (picked env) (c.as_slice.ensures.value ∙ c.in_ok-bits.ensures.are) in
    let j = subst (λ (xs : List ℕ). IsJoined xs bits (picked env bits) env1 env2 code1 code2) c.in_ok-condition.ensures
    (subst (λ (xs : List ℕ). IsJoined c.in_ok-condition.condition.items xs (picked env bits) env1 env2 code1 code2) (c.as_slice-2.ensures.value ∙ c.in_ok-bits.ensures.are)
    (subst (λ (xs : List ℕ). IsJoined c.in_ok-condition.condition.items c.as_slice-2.result.now xs env1 env2 code1 code2) first c.in_ok-join.ensures)) in
    writes_barred env env1 c.args.code.now code1 (leaf_target a leaf) (c.args.index.now ∷ []) c.args.value.now c.args.bar bits c.requires.ready c.in_ok-write_leaf.ensures
    (leaf_weighs a leaf) c.requires.few (signal_once (named_signal a (leaf_name leaf))) (λ b h. leaf_covered a leaf b c.requires.ready.fit h) (leaf_inside a (length env) leaf c.requires.ready.names)
    env2 code2 j

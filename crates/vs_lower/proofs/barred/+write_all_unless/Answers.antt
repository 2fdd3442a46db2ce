use Rattle.std.proofs.Common.{◌≡◌, ◌+◌, ◌-◌, ◌<◌, ◌≤◌, ℕ, List, [], ◌∷◌, map, length, take, drop, get_or, sum_by, sym, ap, subst, arith}
use Rattle.std.proofs.lemmas.List.{length-drop}
use Rattle.std.proofs.lemmas.List.Sums.{sum_by-cons}
use Rattle.vs_design.specs.Statements.{Target, target_width}
use Rattle.vs_flat.specs.Arena.{Arena}
use Rattle.vs_lower.specs.declared.leaves.Leaf.{Leaf}
use Rattle.vs_lower.specs.declared.leaves.Leaf.TheVariants as L
use Rattle.vs_lower.specs.declared.named.Named.TheVariants as M
use Rattle.vs_values.specs.Coded.{Coding}
use Rattle.vs_lower.specs.Leaves.{joined_target, leaf_target}
use Rattle.vs_lower.specs.Unless.{AddsUnlessWrite, AreUnlessWritesReady, IsUnlessWriteReady}
use Rattle.vs_lower.proofs.Parting.{first_unless, more_unless, one_unless, rest_unless}
use Rattle.vs_lower.proofs.Rejoined.{suffix_is}
use Rattle.vs_lower.proofs.barred.+write_all_unless.Goals as goal

-- where the first part's bits begin
low_is : (a : Arena) (leaves : List Leaf) (d : Leaf) (value : List ℕ) (w : ℕ) → 1 ≤ length leaves → w ≡ target_width (leaf_target a (get_or leaves 0 d)) → length value ≡ sum_by target_width (map (leaf_target a) leaves)
    → length value - w + target_width (leaf_target a (get_or leaves 0 d)) ≡ length value
low_is a [] d value w some e long = absurd (omega arith)
low_is a (x ∷ ls) d value w some e long = omega (arith, e, long, sum_by-cons target_width (leaf_target a x) (map (leaf_target a) ls))

-- what the first part adds, in the words of the parts
first : (t : Target) (env env1 : List ℕ) (code code1 : Coding) (ti now value : List ℕ) (low bar : ℕ) → now ≡ ti
    → AddsUnlessWrite env env1 code code1 t (now ∷ []) (take (length value - low) (drop low value)) bar → AddsUnlessWrite env env1 code code1 t (ti ∷ []) (drop low value) bar
first t env env1 code code1 ti now value low bar e h =
    subst (λ (v : List ℕ). AddsUnlessWrite env env1 code code1 t (ti ∷ []) v bar) (suffix_is low value)
    (subst (λ (x : List ℕ). AddsUnlessWrite env env1 code code1 t (x ∷ []) (take (length value - low) (drop low value)) bar) e h)

pub write_one_unless-requires-clause-ready : goal.write_one_unless-requires-clause-ready
write_one_unless-requires-clause-ready t c =
    let known = c.args.templates.now in
    let leaves = c.args.leaves.now in
    let value = c.args.value.now in
    let env = c.args.env.now in
    let code = c.args.code.now in
    let bar = c.args.bar in
    let low = length value - c.leaf_width.result in
    let d = L.Whole (M.Global 0) in
    let leaf = leaf_target known.arena (get_or leaves 0 d) in
    let w = low_is known.arena leaves d value c.leaf_width.result c.requires.some c.leaf_width.ensures c.requires.long in
    let r = first_unless known env code leaves c.args.at.now value bar low d _ c.requires w in
    subst (λ (v : List ℕ). IsUnlessWriteReady env code leaf (c.as_slice.result.now ∷ []) v bar) (sym (suffix_is low value))
    (subst (λ (x : List ℕ). IsUnlessWriteReady env code leaf (x ∷ []) (drop low value) bar) (sym c.as_slice.ensures)
    (subst (λ (x : List ℕ). IsUnlessWriteReady env code leaf (x ∷ []) (drop low value) bar) (sym c.index-at-0.is) r))

pub write_all_unless-requires : goal.write_all_unless-requires
write_all_unless-requires t c =
    let known = c.args.templates.now in
    let a = known.arena in
    let leaves = c.args.leaves.now in
    let indices = c.args.at.now in
    let value = c.args.value.now in
    let bar = c.args.bar in
    let low = length value - c.leaf_width.result in
    let ti = c.index-at-0.result in
    let d = L.Whole (M.Global 0) in
    let env1 = c.write_one_unless.new.env in
    let code1 = c.write_one_unless.new.code in
    let p = first (leaf_target a (get_or leaves 0 d)) c.args.env.now env1 c.args.code.now code1 ti c.as_slice.result.now value low bar c.as_slice.ensures c.in_ok-write_one_unless.ensures in
    let w = low_is a leaves d value c.leaf_width.result c.requires.some c.leaf_width.ensures c.requires.long in
    let r = rest_unless known c.args.env.now env1 c.args.code.now code1 leaves indices value bar low d ti (drop low value) c.if-leaves-gt1.true c.requires w p in
    let q = subst (λ (x : List Leaf). AreUnlessWritesReady known env1 code1 x (take (length indices - 1) (drop 1 indices)) (take low value) bar) (sym (suffix_is 1 leaves))
    (subst (λ (x : List (List ℕ)). AreUnlessWritesReady known env1 code1 (drop 1 leaves) x (take low value) bar) (sym (suffix_is 1 indices)) r) in
    (omega (arith, c.decreases, c.if-leaves-gt1.true, shorter leaves), q)
  where
    shorter : (ls : List Leaf) → 1 < length ls → length (take (length ls - 1) (drop 1 ls)) < length ls
    shorter ls l = omega (arith, l, ap (λ (xs : List Leaf). length xs) (suffix_is 1 ls), length-drop 1 ls)

pub returns-in_ok-write_all_unless : goal.returns-in_ok-write_all_unless
returns-in_ok-write_all_unless t c =
    let known = c.args.templates.now in
    let a = known.arena in
    let leaves = c.args.leaves.now in
    let indices = c.args.at.now in
    let value = c.args.value.now in
    let bar = c.args.bar in
    let low = length value - c.leaf_width.result in
    let ti = c.index-at-0.result in
    let d = L.Whole (M.Global 0) in
    let env1 = c.write_one_unless.new.env in
    let code1 = c.write_one_unless.new.code in
    let env2 = c.write_all_unless.new.env in
    let code2 = c.write_all_unless.new.code in
    let p = first (leaf_target a (get_or leaves 0 d)) c.args.env.now env1 c.args.code.now code1 ti c.as_slice.result.now value low bar c.as_slice.ensures c.in_ok-write_one_unless.ensures in
    let w = low_is a leaves d value c.leaf_width.result c.requires.some c.leaf_width.ensures c.requires.long in
    let W = λ (ls : List Leaf) (is : List (List ℕ)). AddsUnlessWrite env1 env2 code1 code2 (joined_target (map (leaf_target a) ls)) is (take low value) bar in
    let q : W (drop 1 leaves) (drop 1 indices) = subst (λ (x : List Leaf). W x (drop 1 indices)) (suffix_is 1 leaves) (subst (λ (x : List (List ℕ)). W (take (length leaves - 1) (drop 1 leaves)) x) (suffix_is 1 indices) c.in_ok-write_all_unless.ensures) in
    more_unless known c.args.env.now env1 env2 c.args.code.now code1 code2 leaves indices value bar low d ti c.if-leaves-gt1.true c.requires w
    (subst (λ (x : List ℕ). AddsUnlessWrite c.args.env.now env1 c.args.code.now code1 (leaf_target a (get_or leaves 0 d)) (x ∷ []) (drop low value) bar) c.index-at-0.is p)
    q

pub returns-else-leaves-gt1 : goal.returns-else-leaves-gt1
returns-else-leaves-gt1 t c =
    let known = c.args.templates.now in
    let a = known.arena in
    let leaves = c.args.leaves.now in
    let indices = c.args.at.now in
    let value = c.args.value.now in
    let bar = c.args.bar in
    let low = length value - c.leaf_width.result in
    let ti = c.index-at-0.result in
    let d = L.Whole (M.Global 0) in
    let env1 = c.write_one_unless.new.env in
    let code1 = c.write_one_unless.new.code in
    let p = first (leaf_target a (get_or leaves 0 d)) c.args.env.now env1 c.args.code.now code1 ti c.as_slice.result.now value low bar c.as_slice.ensures c.in_ok-write_one_unless.ensures in
    let w = low_is a leaves d value c.leaf_width.result c.requires.some c.leaf_width.ensures c.requires.long in
    one_unless known c.args.env.now env1 c.args.code.now code1 leaves indices value bar low d ti (λ l. omega (arith, l, c.if-leaves-gt1.false)) c.requires w
    (subst (λ (x : List ℕ). AddsUnlessWrite c.args.env.now env1 c.args.code.now code1 (leaf_target a (get_or leaves 0 d)) (x ∷ []) (drop low value) bar) c.index-at-0.is p)

use Rattle.std.proofs.Common.{◌≡◌, ◌+◌, ◌-◌, ◌≤◌, ℕ, List, [], ◌∷◌, map, length, take, drop, get_or, sum_by, subst, arith}
use Rattle.std.proofs.lemmas.List.Sums.{sum_by-cons}
use Rattle.vs_design.specs.Statements.{Target, target_width}
use Rattle.vs_flat.specs.Arena.{Arena}
use Rattle.vs_lower.specs.declared.leaves.Leaf.{Leaf}
use Rattle.vs_lower.specs.declared.leaves.Leaf.TheVariants as L
use Rattle.vs_lower.specs.declared.named.Named.TheVariants as M
use Rattle.vs_values.specs.Coded.{Coding}
use Rattle.vs_lower.specs.Leaves.{joined_target, leaf_target}
use Rattle.vs_lower.specs.Written.{AddsWrites, write_weight}
use Rattle.vs_lower.proofs.Rejoined.{rest_ready, rest_as, suffix_is, writes_more, writes_one}
use Rattle.vs_lower.proofs.writes.+write_leaves.Goals as goal

-- where the first part's bits begin
low_is : (a : Arena) (leaves : List Leaf) (d : Leaf) (value : List ℕ) (w : ℕ) → 1 ≤ length leaves → w ≡ target_width (leaf_target a (get_or leaves 0 d)) → length value ≡ sum_by target_width (map (leaf_target a) leaves)
    → length value - w + target_width (leaf_target a (get_or leaves 0 d)) ≡ length value
low_is a [] d value w some e long = absurd (omega arith)
low_is a (x ∷ ls) d value w some e long = omega (arith, e, long, sum_by-cons target_width (leaf_target a x) (map (leaf_target a) ls))

-- what the first part adds, in the words of the parts
first : (g : Leaf → Target) (env env1 : List ℕ) (code code1 : Coding) (leaf : Leaf) (ti now : List ℕ) (value : List ℕ) (low : ℕ) → now ≡ ti
    → AddsWrites env env1 code code1 (g leaf) (now ∷ []) (take (length value - low) (drop low value)) (write_weight (g leaf)) → AddsWrites env env1 code code1 (g leaf) (ti ∷ []) (drop low value) (write_weight (g leaf))
first g env env1 code code1 leaf ti now value low e h =
    subst (λ (v : List ℕ). AddsWrites env env1 code code1 (g leaf) (ti ∷ []) v (write_weight (g leaf))) (suffix_is low value)
    (subst (λ (x : List ℕ). AddsWrites env env1 code code1 (g leaf) (x ∷ []) (take (length value - low) (drop low value)) (write_weight (g leaf))) e h)

pub write_leaves-requires : goal.write_leaves-requires
write_leaves-requires t c =
    let a = c.args.templates.now.arena in
    let leaves = c.args.leaves.now in
    let indices = c.args.indices.now in
    let value = c.args.value.now in
    let low = length value - c.leaf_width.result in
    let ti = c.index-indices-0.result in
    let d = L.Whole (M.Global 0) in
    let p = first (leaf_target a) c.args.env.now c.write_leaf.new.env c.args.code.now c.write_leaf.new.code (get_or leaves 0 d) ti c.as_slice.result.now value low c.as_slice.ensures c.in_ok-write_leaf.ensures in
    let r = rest_ready c.args.templates.now c.args.env.now c.write_leaf.new.env c.args.code.now c.write_leaf.new.code leaves indices value low d ti (drop low value) c.if-leaves-gt1.true c.requires.inside c.requires.names c.requires.fit c.requires.room c.requires.long
    (low_is a leaves d value c.leaf_width.result c.requires.some c.leaf_width.ensures c.requires.long) c.requires.value c.requires.indices c.requires.indexed p in
    let q = rest_as c.args.templates.now c.write_leaf.new.env c.write_leaf.new.code (length leaves) (take (length leaves - 1) (drop 1 leaves)) (drop 1 leaves) (take (length indices - 1) (drop 1 indices)) (drop 1 indices) (take low value) (suffix_is 1 leaves) (suffix_is 1 indices) r in (
      omega (arith, c.decreases, q.fewer),
      (q.some, (q.inside, (q.names, (q.fit, (q.room, (q.long, (q.value_below, (q.indices_below, q.indexed)))))))),
    )

pub returns-in_ok-write_leaves : goal.returns-in_ok-write_leaves
returns-in_ok-write_leaves t c =
    let a = c.args.templates.now.arena in
    let leaves = c.args.leaves.now in
    let indices = c.args.indices.now in
    let value = c.args.value.now in
    let low = length value - c.leaf_width.result in
    let ti = c.index-indices-0.result in
    let d = L.Whole (M.Global 0) in
    let p = first (leaf_target a) c.args.env.now c.write_leaf.new.env c.args.code.now c.write_leaf.new.code (get_or leaves 0 d) ti c.as_slice.result.now value low c.as_slice.ensures c.in_ok-write_leaf.ensures in
    let w : low + target_width (leaf_target a (get_or leaves 0 d)) ≡ length value = low_is a leaves d value c.leaf_width.result c.requires.some c.leaf_width.ensures c.requires.long in
    let W = λ (ls : List Leaf) (is : List (List ℕ)). AddsWrites c.write_leaf.new.env c.write_leaves.new.env c.write_leaf.new.code c.write_leaves.new.code (joined_target (map (leaf_target a) ls)) is (take low value) (sum_by write_weight (map (leaf_target a) ls)) in
    let q : W (drop 1 leaves) (drop 1 indices) = subst (λ (x : List Leaf). W x (drop 1 indices)) (suffix_is 1 leaves) (subst (λ (x : List (List ℕ)). W (take (length leaves - 1) (drop 1 leaves)) x) (suffix_is 1 indices) c.in_ok-write_leaves.ensures) in
    writes_more a c.args.env.now c.write_leaf.new.env c.write_leaves.new.env c.args.code.now c.write_leaf.new.code c.write_leaves.new.code leaves indices value low d ti c.if-leaves-gt1.true c.requires.indexed c.requires.long w c.requires.value c.requires.indices
    (subst (λ (x : List ℕ). AddsWrites c.args.env.now c.write_leaf.new.env c.args.code.now c.write_leaf.new.code (leaf_target a (get_or leaves 0 d)) (x ∷ []) (drop low value) (write_weight (leaf_target a (get_or leaves 0 d)))) c.index-indices-0.is p)
    q

pub returns-else-leaves-gt1 : goal.returns-else-leaves-gt1
returns-else-leaves-gt1 t c =
    let a = c.args.templates.now.arena in
    let leaves = c.args.leaves.now in
    let indices = c.args.indices.now in
    let value = c.args.value.now in
    let low = length value - c.leaf_width.result in
    let ti = c.index-indices-0.result in
    let d = L.Whole (M.Global 0) in
    let env1 = c.write_leaf.new.env in
    let code1 = c.write_leaf.new.code in
    let p = first (leaf_target a) c.args.env.now env1 c.args.code.now code1 (get_or leaves 0 d) ti c.as_slice.result.now value low c.as_slice.ensures c.in_ok-write_leaf.ensures in
    let w : low + target_width (leaf_target a (get_or leaves 0 d)) ≡ length value = low_is a leaves d value c.leaf_width.result c.requires.some c.leaf_width.ensures c.requires.long in
    writes_one a c.args.env.now env1 c.args.code.now code1 leaves indices value low d ti (λ l. omega (arith, l, c.if-leaves-gt1.false)) c.requires.some c.requires.indexed c.requires.long w
    (subst (λ (x : List ℕ). AddsWrites c.args.env.now env1 c.args.code.now code1 (leaf_target a (get_or leaves 0 d)) (x ∷ []) (drop low value) (write_weight (leaf_target a (get_or leaves 0 d)))) c.index-indices-0.is p)

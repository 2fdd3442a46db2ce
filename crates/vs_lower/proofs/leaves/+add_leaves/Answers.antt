use Rattle.std.proofs.Common.{◌≡◌, ◌∙◌, ℕ, List, IsSome, length, take, slice_index, sym, ap, subst, refl, arith}
use Rattle.std.specs.List.{flat_map}
use Rattle.std.proofs.lemmas.List.{take_all}
use Rattle.vs_design.specs.Expressions as E
use Rattle.vs_lower.specs.declared.leaves.Leaf.TheVariants as L
use Rattle.vs_lower.specs.declared.named.Named.TheVariants as M
use Rattle.vs_flat.specs.Arena.{Arena}
use Rattle.vs_flat.specs.DesignOf.{arena_trees}
use Rattle.vs_flat.specs.Targets.{target_of}
use Rattle.vs_flat.specs.Trees.{target_tree, tree_at}
use Rattle.vs_flat.specs.declared.expressions.Node.{Node}
use Rattle.vs_flat.specs.declared.expressions.Node.TheVariants as N
use Rattle.vs_shape.specs.Nodes.{HasCalls, HasNames, place_of, tree_of_node}
use Rattle.vs_lower.specs.Leaves.{AddsLeaves, leaves_of}
use Rattle.vs_lower.proofs.Parted.{parted, parts_more, adds_leaf, adds_leaves}
use Rattle.vs_lower.proofs.leaves.+add_leaves.Goals as goal

pub add_select-requires-clause-of : goal.add_select-requires-clause-of
add_select-requires-clause-of t c =
    let a = c.args.templates.now.arena in
    let names = subst (HasNames (length a.signals) c.args.target) c.in-Bit.is (rw c.shapes.ensures at c.node.ensures.names) in
    omega (arith, names.0, c.requires.node, c.reach.ensures.nodes)

pub add_select-requires-in-Part-clause-of : goal.add_select-requires-in-Part-clause-of
add_select-requires-in-Part-clause-of t c =
    let a = c.args.templates.now.arena in
    let names = subst (HasNames (length a.signals) c.args.target) c.in-Part.is (rw c.shapes.ensures at c.node.ensures.names) in
    omega (arith, names.0, c.requires.node, c.reach.ensures.nodes)

pub add_select-requires-clause-index : goal.add_select-requires-clause-index
add_select-requires-clause-index t c =
    let a = c.args.templates.now.arena in
    let names = subst (HasNames (length a.signals) c.args.target) c.in-Bit.is (rw c.shapes.ensures at c.node.ensures.names) in
    omega (arith, names.1, c.requires.node)

pub add_select-requires-in-Part-clause-index : goal.add_select-requires-in-Part-clause-index
add_select-requires-in-Part-clause-index t c =
    let a = c.args.templates.now.arena in
    let names = subst (HasNames (length a.signals) c.args.target) c.in-Part.is (rw c.shapes.ensures at c.node.ensures.names) in
    omega (arith, names.1, c.requires.node)

-- the tree of this node
tree : (a : Arena) (e : ℕ) (x n : Node) → x ≡ n → tree_at (arena_trees a) e ≡ E.At (place_of a e) (tree_of_node a x) → tree_at (arena_trees a) e ≡ E.At (place_of a e) (tree_of_node a n)
tree a e x n h is = is ∙ ap (λ (m : Node). E.At (place_of a e) (tree_of_node a m)) h

pub add_select-requires-clause-is_target : goal.add_select-requires-clause-is_target
add_select-requires-clause-is_target t c =
    let a = c.args.templates.now.arena in
    subst (λ (x : E.Expression). IsSome (target_of x)) (tree a c.args.target c.node.result.now (N.Bit c.in-Bit.of c.in-Bit.range c.in-Bit.index) c.in-Bit.is (rw c.shapes.ensures at c.node.ensures.tree)) c.requires.is_target

pub add_select-requires-in-Part-clause-is_target : goal.add_select-requires-in-Part-clause-is_target
add_select-requires-in-Part-clause-is_target t c =
    let a = c.args.templates.now.arena in
    subst (λ (x : E.Expression). IsSome (target_of x)) (tree a c.args.target c.node.result.now (N.Part c.in-Part.of c.in-Part.range c.in-Part.base c.in-Part.up c.in-Part.width) c.in-Part.is (rw c.shapes.ensures at c.node.ensures.tree)) c.requires.is_target

pub add_leaves-requires : goal.add_leaves-requires
add_leaves-requires t c =
    let a = c.args.templates.now.arena in
    let e = c.args.target in
    let parts = c.as_slice.result.now in
    let is = c.in-Join.is ∙ ap (λ (x : List ℕ). N.Join x) (sym c.as_slice.ensures) in
    let names = subst (HasNames (length a.signals) e) is (rw c.shapes.ensures at c.node.ensures.names) in
    let p = parted a e (place_of a e) parts (tree a e c.node.result.now (N.Join parts) is (rw c.shapes.ensures at c.node.ensures.tree)) names c.requires.is_target c.first_copy-parts.result.now c.first_copy-parts.ensures.copy c.first_copy-parts.ensures.prefix c.first_copy-parts.ensures.short in
    let q = p.each c.loop-part.part-index c.loop-part-test.true in (
      omega (arith, q.0, c.decreases),
      (omega (arith, q.0, c.requires.node), q.1),
    )

pub returns-after-loop-part : goal.returns-after-loop-part
returns-after-loop-part t c =
    let a = c.args.templates.now.arena in
    let e = c.args.target in
    let parts = c.as_slice.result.now in
    let is = c.in-Join.is ∙ ap (λ (x : List ℕ). N.Join x) (sym c.as_slice.ensures) in
    let names = subst (HasNames (length a.signals) e) is (rw c.shapes.ensures at c.node.ensures.names) in
    let first = c.first_copy-parts.result.now in
    let p = parted a e (place_of a e) parts (tree a e c.node.result.now (N.Join parts) is (rw c.shapes.ensures at c.node.ensures.tree)) names c.requires.is_target first c.first_copy-parts.ensures.copy c.first_copy-parts.ensures.prefix c.first_copy-parts.ensures.short in
    let f = λ (x : ℕ). leaves_of (target_tree (tree_at (arena_trees a) x)) in
    subst (AddsLeaves c.args.templates.now c.args.leaves.now.items c.loop-part.leaves.items) (ap (flat_map f) (take_all c.loop-part.part-index first c.loop-part-test.false) ∙ sym p.are) c.loop-part.invariant

pub loop-part-preserved : goal.loop-part-preserved
loop-part-preserved t c =
    let a = c.args.templates.now.arena in
    let parts = c.first_copy-parts.result.now in
    let n = c.loop-part.part-index in
    let f = λ (x : ℕ). leaves_of (target_tree (tree_at (arena_trees a) x)) in
    subst (AddsLeaves c.args.templates.now c.args.leaves.now.items c.add_leaves.new.leaves.items) (parts_more f parts n c.loop-part-test.true)
    (adds_leaves c.args.templates.now c.args.leaves.now.items c.loop-part.leaves.items c.add_leaves.new.leaves.items (flat_map f (take n parts)) (f (slice_index parts n)) c.loop-part.invariant c.in_ok-add_leaves-in-Join.ensures)

pub returns-in_ok-push-in-Name : goal.returns-in_ok-push-in-Name
returns-in_ok-push-in-Name t c =
    let a = c.args.templates.now.arena in
    let e = c.args.target in
    let n = N.Name c.in-Name.signal in
    let names = subst (HasNames (length a.signals) e) c.in-Name.is (rw c.shapes.ensures at c.node.ensures.names) in
    subst (λ (x : E.Expression). AddsLeaves c.args.templates.now c.args.leaves.now.items c.push.new.self.items (leaves_of (target_tree x))) (sym (tree a e c.node.result.now n c.in-Name.is (rw c.shapes.ensures at c.node.ensures.tree)))
    (adds_leaf c.args.templates.now c.args.leaves.now.items c.push.new.self.items (L.Whole (M.Global c.in-Name.signal)) _ c.in_ok-push-in-Name.ensures.items refl names)

pub returns-in_ok-push-in-Local : goal.returns-in_ok-push-in-Local
returns-in_ok-push-in-Local t c =
    let a = c.args.templates.now.arena in
    let e = c.args.target in
    let n = N.Local c.in-Local.function c.in-Local.signal in
    let calls = subst (HasCalls a) c.in-Local.is (rw c.shapes.ensures at c.node.ensures.calls) in
    subst (λ (x : E.Expression). AddsLeaves c.args.templates.now c.args.leaves.now.items c.push-in-Local.new.self.items (leaves_of (target_tree x))) (sym (tree a e c.node.result.now n c.in-Local.is (rw c.shapes.ensures at c.node.ensures.tree)))
    (adds_leaf c.args.templates.now c.args.leaves.now.items c.push-in-Local.new.self.items (L.Whole (M.Local c.in-Local.function c.in-Local.signal)) _ c.in_ok-push-in-Local.ensures.items refl calls)

pub returns-in_ok-push-in-Word : goal.returns-in_ok-push-in-Word
returns-in_ok-push-in-Word t c =
    let a = c.args.templates.now.arena in
    let e = c.args.target in
    let n = N.Word c.in-Word.signal c.in-Word.index in
    let names = subst (HasNames (length a.signals) e) c.in-Word.is (rw c.shapes.ensures at c.node.ensures.names) in
    subst (λ (x : E.Expression). AddsLeaves c.args.templates.now c.args.leaves.now.items c.push-in-Word.new.self.items (leaves_of (target_tree x))) (sym (tree a e c.node.result.now n c.in-Word.is (rw c.shapes.ensures at c.node.ensures.tree)))
    (adds_leaf c.args.templates.now c.args.leaves.now.items c.push-in-Word.new.self.items (L.Word c.in-Word.signal c.in-Word.index) _ c.in_ok-push-in-Word.ensures.items refl (names.0, omega (arith, names.1, c.requires.node)))

pub returns-in_ok-push-in-WordPart : goal.returns-in_ok-push-in-WordPart
returns-in_ok-push-in-WordPart t c =
    let a = c.args.templates.now.arena in
    let e = c.args.target in
    let n = N.WordPart c.in-WordPart.signal c.in-WordPart.address c.in-WordPart.range c.in-WordPart.base c.in-WordPart.up c.in-WordPart.width in
    let names = subst (HasNames (length a.signals) e) c.in-WordPart.is (rw c.shapes.ensures at c.node.ensures.names) in
    subst (λ (x : E.Expression). AddsLeaves c.args.templates.now c.args.leaves.now.items c.push-in-WordPart.new.self.items (leaves_of (target_tree x))) (sym (tree a e c.node.result.now n c.in-WordPart.is (rw c.shapes.ensures at c.node.ensures.tree)))
    (adds_leaf c.args.templates.now c.args.leaves.now.items c.push-in-WordPart.new.self.items (L.WordPart c.in-WordPart.signal c.in-WordPart.address c.in-WordPart.range c.in-WordPart.up c.in-WordPart.width c.in-WordPart.base) _ c.in_ok-push-in-WordPart.ensures.items refl
    (names.0, omega (arith, names.1, c.requires.node), omega (arith, names.2, c.requires.node)))

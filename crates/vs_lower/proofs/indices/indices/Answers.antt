use Rattle.std.proofs.Common.{◌≡◌, ◌∙◌, ◌+◌, ◌++◌, ℕ, List, [], ◌∷◌, map, take, get_or, sym, ap, subst}
use Rattle.vs_design.specs.Statements.{Target}
use Rattle.vs_lower.specs.declared.leaves.Leaf.TheVariants as L
use Rattle.vs_lower.specs.declared.named.Named.TheVariants as M
use Rattle.vs_lower.specs.Leaves.{leaf_target}
use Rattle.vs_lower.specs.Written.{AddsIndices}
use Rattle.vs_lower.proofs.Indexing.{adds_no_indices, adds_index_more, room_for_next, taken_leaf}
use Rattle.vs_lower.proofs.indices.indices.Goals as goal

pub loop-n-init : goal.loop-n-init
loop-n-init c = adds_no_indices c.args.env.now c.args.code.now c.in_ok-tis.tis.items c.in_ok-tis.ensures.items

pub index-requires-clause-room : goal.index-requires-clause-room
index-requires-clause-room c =
    room_for_next c.args.env.now c.args.code.now c.loop-n.code (leaf_target c.args.templates.now.arena) c.args.leaves.now c.loop-n.tis.items c.loop-n.n (L.Whole (M.Global 0)) c.loop-n-test.true c.requires.room c.loop-n.invariant

pub loop-n-preserved : goal.loop-n-preserved
loop-n-preserved c =
    let g = leaf_target c.args.templates.now.arena in
    let ls = c.args.leaves.now in
    let n = c.loop-n.n in
    let t = g (get_or ls n (L.Whole (M.Global 0))) in
    let ti = c.in_ok-ti.ti.items in
    let pushed : c.push.new.self.items ≡ c.loop-n.tis.items ++ ti ∷ [] = c.in_ok-push.ensures.items ∙ ap (λ (x : List ℕ). c.loop-n.tis.items ++ x ∷ []) c.of.ensures in
    subst (λ (x : List (List ℕ)). AddsIndices c.args.env.now c.args.code.now c.index.new.code (take (n + 1) (map g ls)) x) (sym pushed)
    (subst (λ (x : List Target). AddsIndices c.args.env.now c.args.code.now c.index.new.code x (c.loop-n.tis.items ++ ti ∷ [])) (taken_leaf g ls n (L.Whole (M.Global 0)) c.loop-n-test.true)
    (adds_index_more c.args.env.now c.args.code.now c.loop-n.code c.index.new.code (take n (map g ls)) c.loop-n.tis.items t ti c.requires.room.is_env c.loop-n.invariant c.in_ok-ti.ensures))

use Rattle.std.proofs.Common.{◌≡◌, ◌∙◌, List, map, sum_by, sym, subst, true, length}
use Rattle.std.specs.List.{All}
use Rattle.vs_design.specs.Fits.{fits_target}
use Rattle.vs_flat.specs.DesignOf.{arena_trees}
use Rattle.vs_flat.specs.Trees.{target_tree, tree_at}
use Rattle.vs_lower.specs.declared.leaves.Leaf.{Leaf}
use Rattle.vs_lower.specs.Leaves.{leaf_target}
use Rattle.vs_lower.specs.Written.{AddsIndices, HasRoom, index_weight}
use Rattle.vs_lower.proofs.Storing.{right_ready, indices_room, leaves_fit, adds_operands, width_of_fit_target, leaves_within}
use Rattle.vs_design.specs.Within.{target_within}
use Rattle.vs_lower.proofs.assigns.lower_operands.Goals as goal

pub right_side-requires-clause-ready : goal.right_side-requires-clause-ready
right_side-requires-clause-ready c =
    let a = c.args.templates.now.arena in
    let t = target_tree (tree_at (arena_trees a) c.args.target) in
    right_ready c.args.env.now c.args.code.now t (tree_at (arena_trees a) c.args.e) c.width.result
    (c.width.ensures ∙ width_of_fit_target (tree_at (arena_trees a) c.args.target) c.requires.is_target c.requires.target_fits) c.requires.target_fits c.requires.fit c.requires.names c.requires.room

pub indices-requires-clause-fit : goal.indices-requires-clause-fit
indices-requires-clause-fit c =
    let a = c.args.templates.now.arena in
    subst (All (λ (leaf : Leaf). fits_target (leaf_target a leaf) ≡ true)) (sym c.as_slice.ensures.value)
    (leaves_fit a (target_tree (tree_at (arena_trees a) c.args.target)) c.in_ok-leaves.leaves.items c.requires.target_fits c.in_ok-leaves.ensures.are)

pub indices-requires-clause-names : goal.indices-requires-clause-names
indices-requires-clause-names c =
    let a = c.args.templates.now.arena in
    subst (All (λ (leaf : Leaf). target_within (length c.args.env.now) (leaf_target a leaf) ≡ true)) (sym c.as_slice.ensures.value)
    (leaves_within (length c.args.env.now) a (target_tree (tree_at (arena_trees a) c.args.target)) c.in_ok-leaves.leaves.items c.requires.target_names c.in_ok-leaves.ensures.are)

pub indices-requires-clause-room : goal.indices-requires-clause-room
indices-requires-clause-room c =
    let a = c.args.templates.now.arena in
    let t = target_tree (tree_at (arena_trees a) c.args.target) in
    subst (λ (x : List Leaf). HasRoom c.args.env.now c.right_side.new.code (sum_by index_weight (map (leaf_target a) x))) (sym c.as_slice.ensures.value)
    (indices_room a c.args.env.now c.args.code.now c.right_side.new.code t (tree_at (arena_trees a) c.args.e) c.width.result c.in_ok-leaves.leaves.items c.in_ok-value.value.items
    (c.width.ensures ∙ width_of_fit_target (tree_at (arena_trees a) c.args.target) c.requires.is_target c.requires.target_fits) c.in_ok-leaves.ensures.are c.requires.room c.in_ok-value.ensures)

pub returns-clause-adds : goal.returns-clause-adds
returns-clause-adds c =
    let a = c.args.templates.now.arena in
    let t = target_tree (tree_at (arena_trees a) c.args.target) in
    adds_operands a c.args.env.now c.args.code.now c.right_side.new.code c.indices.new.code t (tree_at (arena_trees a) c.args.e) c.width.result c.in_ok-leaves.leaves.items c.in_ok-at.at.items c.in_ok-value.value.items c.requires.room.is_env
    (c.width.ensures ∙ width_of_fit_target (tree_at (arena_trees a) c.args.target) c.requires.is_target c.requires.target_fits) c.in_ok-leaves.ensures.are c.in_ok-value.ensures
    (subst (λ (x : List Leaf). AddsIndices c.args.env.now c.right_side.new.code c.indices.new.code (map (leaf_target a) x) c.in_ok-at.at.items) c.as_slice.ensures.value c.in_ok-at.ensures)

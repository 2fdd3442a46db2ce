use Rattle.std.proofs.Common.{List, map, sym, subst}
use Rattle.vs_flat.specs.DesignOf.{arena_trees}
use Rattle.vs_flat.specs.Trees.{target_tree, tree_at}
use Rattle.vs_lower.specs.declared.leaves.Leaf.{Leaf}
use Rattle.vs_lower.specs.Leaves.{joined_target, leaf_target}
use Rattle.vs_lower.specs.Unless.{AddsUnlessWrite, AreUnlessWritesReady}
use Rattle.vs_lower.proofs.Parting.{all_ready, all_written}
use Rattle.vs_lower.proofs.barred.write_unless.Goals as goal

pub write_all_unless-requires : goal.write_all_unless-requires
write_all_unless-requires c =
    let t = target_tree (tree_at (arena_trees c.args.templates.now.arena) c.args.target) in
    subst (λ (xs : List Leaf). AreUnlessWritesReady c.args.templates.now c.args.env.now c.args.code.now xs c.args.at.now c.args.value.now c.args.bar) (sym c.as_slice.ensures.value)
    (all_ready c.args.templates.now c.args.env.now c.args.code.now t c.in_ok-leaves.leaves.items c.args.at.now c.args.value.now c.args.bar c.in_ok-leaves.ensures.are c.in_ok-leaves.ensures.inside c.requires.ready)

pub returns : goal.returns
returns c =
    let a = c.args.templates.now.arena in
    let t = target_tree (tree_at (arena_trees a) c.args.target) in
    let env1 = c.write_all_unless.new.env in
    let code1 = c.write_all_unless.new.code in
    all_written a c.args.env.now env1 c.args.code.now code1 t c.in_ok-leaves.leaves.items c.args.at.now c.args.value.now c.args.bar c.in_ok-leaves.ensures.are
    (subst (λ (xs : List Leaf). AddsUnlessWrite c.args.env.now env1 c.args.code.now code1 (joined_target (map (leaf_target a) xs)) c.args.at.now c.args.value.now c.args.bar) c.as_slice.ensures.value c.in_ok-write_all_unless.ensures)

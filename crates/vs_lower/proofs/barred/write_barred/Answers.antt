use Rattle.std.proofs.Common.{◌≡◌, ℕ, length, sym, ap, subst}
use Rattle.vs_design.specs.Statements.{Target, WordPartOf, target_width}
use Rattle.vs_flat.specs.DesignOf.{arena_signals, arena_trees}
use Rattle.vs_flat.specs.Trees.{signal_at, tree_at}
use Rattle.vs_lower.specs.declared.leaves.Leaf.{Leaf}
use Rattle.vs_lower.specs.Leaves.{IsInside, leaf_target}
use Rattle.vs_lower.proofs.barred.write_barred.Goals as goal

pub write_part_unless-requires-clause-signal : goal.write_part_unless-requires-clause-signal
write_part_unless-requires-clause-signal c = (subst (λ (x : Leaf). IsInside c.args.templates.now x) c.in-WordPart.is c.requires.inside).0

pub write_part_unless-requires-clause-at : goal.write_part_unless-requires-clause-at
write_part_unless-requires-clause-at c = (subst (λ (x : Leaf). IsInside c.args.templates.now x) c.in-WordPart.is c.requires.inside).1

pub write_part_unless-requires-clause-leaf : goal.write_part_unless-requires-clause-leaf
write_part_unless-requires-clause-leaf c =
    let a = c.args.templates.now.arena in
    let tv = c.args.value.now in
    let long : length tv ≡ c.in-WordPart.width = subst (λ (x : Leaf). length tv ≡ target_width (leaf_target a x)) c.in-WordPart.is c.requires.ready.long in
    let made : ℕ → Target = λ m. WordPartOf (signal_at (arena_signals a) c.in-WordPart.signal) (tree_at (arena_trees a) c.in-WordPart.address) (record { range = c.in-WordPart.range; up = c.in-WordPart.up; width = m }) (tree_at (arena_trees a) c.in-WordPart.at) in
    ap made (sym long)

use Rattle.std.proofs.Common.{◌≡◌, ◌∙◌, ◌++◌, ℕ, List, sym, ap, subst}
use Rattle.vs_design.specs.Footprints.{contains, target_bits}
use Rattle.vs_flat.specs.Arena.{Arena}
use Rattle.vs_flat.specs.DesignOf.{arena_trees}
use Rattle.vs_flat.specs.Trees.{target_tree, tree_at}
use Rattle.vs_shape.specs.Walked.{IsTarget}
use Rattle.vs_lower.proofs.continuous.target_written.Goals as goal

pub push_target-requires-clause-target : goal.push_target-requires-clause-target
push_target-requires-clause-target c = subst (λ (a : Arena). IsTarget (tree_at (arena_trees a) c.args.target)) (sym c.shapes.ensures) c.requires.target

pub returns-clause-same : goal.returns-clause-same
returns-clause-same c b =
    let bits = λ (a : Arena). target_bits (target_tree (tree_at (arena_trees a) c.args.target)) in
    let is : c.push_target.new.out.items ≡ c.new-bits.result.items ++ bits c.shapes.result.now = c.in_ok-push_target.ensures in
    let none = ap (λ (xs : List ℕ). xs ++ bits c.shapes.result.now) c.new-bits.ensures.items in
    let same = ap bits c.shapes.ensures in
    c.ascend.ensures.same b
    ∙ ap (λ (xs : List ℕ). contains xs b) (is ∙ none ∙ same)

use Rattle.std.proofs.Common.{◌∙◌, ℕ, max, ap}
use Rattle.vs_flat.specs.DesignOf.{arena_trees}
use Rattle.vs_flat.specs.Trees.{tree_at}
use Rattle.vs_lower.proofs.Storing.{assigned_of}
use Rattle.vs_lower.proofs.assigns.right_side.Goals as goal

pub returns : goal.returns
returns c =
    assigned_of c.args.env.now c.args.code.now c.lower.new.code (tree_at (arena_trees c.args.templates.now.arena) c.args.e) c.args.width c.max.result c.own-own.result.signed c.in_ok-to.to.items c.truncate.new.self.items c.requires.ready.is_env
    (c.max.ensures ∙ ap (λ (n : ℕ). max n c.args.width) c.own-own.ensures.width) c.own-own.ensures.signed c.truncate.ensures.items c.in_ok-to.ensures

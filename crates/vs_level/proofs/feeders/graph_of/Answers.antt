use Rattle.std.proofs.Common.{◌+◌, sym, ◌∙◌, subst}
use Rattle.vs_flat.specs.DesignOf.{design_of}
use Rattle.vs_level.specs.Feeders.{IsGraphUpTo}
use Rattle.vs_level.proofs.Growing.{graph_node, graph_other}
use Rattle.vs_level.proofs.feeders.graph_of.Goals as goal
use Rattle.vs_level.proofs.feeders.graph_of.Goals.{then-is_settling+in_ok-feeders_of+in_ok-add_node, else-is_settling+in_ok-add_other}

pub loop-p-preserved : goal.loop-p-preserved
loop-p-preserved c =
    let d = design_of c.args.flat.now in
    let p = c.loop-p.p in
    elim c.if-is_settling.branch [
      | then-is_settling+in_ok-feeders_of+in_ok-add_node w ↦ subst (IsGraphUpTo d (p + 1)) (sym (w.graph-is ∙ w.in_ok-add_node.ensures)) (graph_node d p c.loop-p.graph _ c.loop-p.invariant (sym c.is_settling.ensures ∙ w.if-is_settling.true) w.in_ok-feeders_of.ensures)
      | else-is_settling+in_ok-add_other w ↦ subst (IsGraphUpTo d (p + 1)) (sym (w.graph-is ∙ w.in_ok-add_other.ensures)) (graph_other d p c.loop-p.graph c.loop-p.invariant (sym c.is_settling.ensures ∙ w.if-is_settling.false))
    ]

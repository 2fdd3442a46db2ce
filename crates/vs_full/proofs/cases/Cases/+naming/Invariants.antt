use Rattle.std.proofs.Common.{◌+◌, ◌*◌, drop, map}
use Rattle.vs_design.specs.Footprints.{read_signals}
use Rattle.vs_flat.specs.DesignOf.{design_of}
use Rattle.vs_flat.specs.Trees.{joined}
use Rattle.vs_shape.specs.Nodes.{tree_of}
use Rattle.vs_full.proofs.Picking.{ArePickedTo}
use Rattle.vs_full.proofs.cases.Cases.+naming.Given as goal

abbrev pub decreases-pick_named : goal.decreases-pick_named
decreases-pick_named l = 2 * l.e + 1

abbrev pub decreases-pick_parts : goal.decreases-pick_parts
decreases-pick_parts l = 2 * l.e

-- with the parts that are left
abbrev pub invariant-pick_parts-loop-part : goal.invariant-pick_parts-loop-part
invariant-pick_parts-loop-part l =
    ArePickedTo (design_of l.shapes) (read_signals (joined (map (tree_of l.shapes) (drop l.part-index l.parts)))) (read_signals (joined (map (tree_of l.shapes) l.parts))) l.initial.picked l.picked

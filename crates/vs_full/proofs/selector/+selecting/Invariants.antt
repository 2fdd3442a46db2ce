use Rattle.std.proofs.Common.{◌≡◌, ◌+◌, ◌*◌, drop, map}
use Rattle.vs_design.specs.Selects.{is_selector}
use Rattle.vs_flat.specs.DesignOf.{design_of}
use Rattle.vs_flat.specs.Trees.{joined}
use Rattle.vs_shape.specs.Nodes.{tree_of}
use Rattle.vs_full.proofs.selector.+selecting.Given as goal

abbrev pub decreases-is_selector : goal.decreases-is_selector
decreases-is_selector l = 2 * l.e + 1

abbrev pub decreases-are_selectors : goal.decreases-are_selectors
decreases-are_selectors l = 2 * l.e

-- the parts that are left are selectors just if all are
abbrev pub invariant-are_selectors-loop-part : goal.invariant-are_selectors-loop-part
invariant-are_selectors-loop-part l = is_selector (design_of l.shapes) (joined (map (tree_of l.shapes) (drop l.part-index l.parts))) ≡ is_selector (design_of l.shapes) (joined (map (tree_of l.shapes) l.parts))

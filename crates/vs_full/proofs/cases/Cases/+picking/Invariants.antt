use Rattle.std.proofs.Common.{◌+◌, ◌*◌, drop, map}
use Rattle.vs_design.specs.Selects.{arms_selector_signals, selector_signals}
use Rattle.vs_flat.specs.DesignOf.{design_of}
use Rattle.vs_flat.specs.Trees.{sequence}
use Rattle.vs_sets.specs.StatementParts.{arms_of, statement_of}
use Rattle.vs_full.proofs.Picking.{ArePickedTo}
use Rattle.vs_full.proofs.cases.Cases.+picking.Given as goal

abbrev pub decreases-pick_in : goal.decreases-pick_in
decreases-pick_in l = 3 * l.s + 2

abbrev pub decreases-pick_arms : goal.decreases-pick_arms
decreases-pick_arms l = 3 * l.s + 1

abbrev pub decreases-pick_all : goal.decreases-pick_all
decreases-pick_all l = 3 * l.s

abbrev pub decreases-pick_branch : goal.decreases-pick_branch
decreases-pick_branch l = 3 * l.s

-- with the arms that are left, and with the parts
abbrev pub invariant-pick_arms-loop-arm : goal.invariant-pick_arms-loop-arm
invariant-pick_arms-loop-arm l =
    ArePickedTo (design_of l.shapes) (arms_selector_signals (design_of l.shapes) (arms_of l.shapes l.other (drop l.arm-index l.arms))) (arms_selector_signals (design_of l.shapes) (arms_of l.shapes l.other l.arms)) l.initial.picked l.picked

abbrev pub invariant-pick_all-loop-part : goal.invariant-pick_all-loop-part
invariant-pick_all-loop-part l =
    ArePickedTo (design_of l.shapes) (selector_signals (design_of l.shapes) (sequence (map (statement_of l.shapes) (drop l.part-index l.parts)))) (selector_signals (design_of l.shapes) (sequence (map (statement_of l.shapes) l.parts))) l.initial.picked l.picked

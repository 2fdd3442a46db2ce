use Rattle.std.proofs.Common.{◌≡◌, ℕ, map, drop}
use Rattle.vs_shape.specs.Nodes.{tree_of}
use Rattle.vs_design.specs.Expressions.{items_of}
use Rattle.vs_typed.specs.Places.{least_from, item_places, part_places}
use Rattle.vs_typed.proofs.places.+least_in.Given as goal

abbrev pub decreases-least_in : goal.decreases-least_in
decreases-least_in l = l.e

abbrev pub invariant-loop-part : goal.invariant-loop-part
invariant-loop-part l =
    (at : ℕ) → least_from l.least (part_places l.rule at (map (tree_of l.shapes) (drop l.part-index l.part-items))) ≡ least_from l.initial.least (part_places l.rule at (map (tree_of l.shapes) l.part-items))

abbrev pub invariant-loop-argument : goal.invariant-loop-argument
invariant-loop-argument l =
    (at : ℕ) → least_from l.least (item_places l.rule at (items_of (map (tree_of l.shapes) (drop l.argument-index l.argument-items)))) ≡ least_from l.initial.least (item_places l.rule at (items_of (map (tree_of l.shapes) l.argument-items)))

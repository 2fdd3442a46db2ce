use Rattle.std.proofs.Common.{◌≡◌, ℕ, map, drop}
use Rattle.vs_design.specs.Expressions.{items_of}
use Rattle.vs_shape.specs.Nodes.{tree_of}
use Rattle.vs_typed.specs.Places.{least_from, item_places}
use Rattle.vs_typed.proofs.least.least_items.Given as goal

abbrev pub invariant-loop-item : goal.invariant-loop-item
invariant-loop-item l =
    (at : ℕ) → least_from l.least (item_places l.rule at (items_of (map (tree_of l.shapes) (drop l.item-index l.items)))) ≡ least_from l.initial.least (item_places l.rule at (items_of (map (tree_of l.shapes) l.items)))

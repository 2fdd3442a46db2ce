use Rattle.std.proofs.Common.{drop, replicate, length}
use Rattle.std.specs.Prelude.{false}
use Rattle.std.specs.List.{flat_map}
use Rattle.vs_design.specs.Selects.{block_selector_signals}
use Rattle.vs_flat.specs.DesignOf.{design_of}
use Rattle.vs_full.proofs.Picking.{ArePickedTo}
use Rattle.vs_full.proofs.cases.Cases.select_firsts.Given as goal

-- with the blocks that are left
abbrev pub invariant-loop-p : goal.invariant-loop-p
invariant-loop-p l =
    ArePickedTo (design_of l.shapes) (flat_map (block_selector_signals (design_of l.shapes)) (drop l.p (design_of l.shapes).processes)) (flat_map (block_selector_signals (design_of l.shapes)) (design_of l.shapes).processes) (replicate (length l.shapes.signals) false)
    l.picked.items

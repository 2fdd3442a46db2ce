use Rattle.std.proofs.Common.{Bool, List, [], sym, ap, ◌∙◌, if◌then◌else◌}
use Rattle.vs_design.specs.Expressions.{Signal}
use Rattle.vs_design.specs.Footprints.{read_signals}
use Rattle.vs_flat.specs.DesignOf.{design_of}
use Rattle.vs_shape.specs.Nodes.{tree_of}
use Rattle.vs_full.proofs.Picking.{picked_as, picked_none}
use Rattle.vs_full.proofs.cases.Cases.pick_subject.Goals as goal

abbrev chosen : Bool → List Signal → List Signal
chosen c ss = if c then ss else []

pub pick_named-requires-clause-selector : goal.pick_named-requires-clause-selector
pick_named-requires-clause-selector c = c.requires.selector (sym c.is_full.ensures ∙ c.if-not-is_full.false)

pub returns-then-not-is_full : goal.returns-then-not-is_full
returns-then-not-is_full c =
    let a = c.args.shapes.now in
    let ss = read_signals (tree_of a c.args.of) in
    picked_as (design_of a) [] _ c.args.picked.now c.args.picked.now (sym (ap (λ (t : Bool). chosen t ss) (sym c.is_full.ensures ∙ c.if-not-is_full.true))) (picked_none (design_of a) c.args.picked.now)

pub returns : goal.returns
returns c =
    let a = c.args.shapes.now in
    let ss = read_signals (tree_of a c.args.of) in
    picked_as (design_of a) ss _ c.args.picked.now c.pick_named.new.picked (sym (ap (λ (t : Bool). chosen t ss) (sym c.is_full.ensures ∙ c.if-not-is_full.false))) c.pick_named.ensures

use Rattle.vs_design.specs.Expressions.{Select}
use Rattle.vs_flat.specs.DesignOf.{design_of}
use Rattle.vs_flat.specs.Targets.{source_of}
use Rattle.vs_shape.specs.Nodes.{tree_of}
use Rattle.vs_sets.proofs.Fit.{fit_parts}
use Rattle.vs_full.proofs.Selecting.{no_root, source_formed, with_root}
use Rattle.vs_full.proofs.selector.selects_inside.Goals as goal

pub names_select-requires-clause-formed : goal.names_select-requires-clause-formed
names_select-requires-clause-formed c =
    let a = c.args.shapes.now in
    source_formed (design_of a) (source_of (tree_of a c.args.of)) c.args.part (tree_of a c.args.index) c.requires.formed

pub is_inside-requires-clause-fit : goal.is_inside-requires-clause-fit
is_inside-requires-clause-fit c =
    let a = c.args.shapes.now in
    (fit_parts (Select (source_of (tree_of a c.args.of)) c.args.part (tree_of a c.args.index)) c.requires.fit).2

pub is_inside-requires-clause-some : goal.is_inside-requires-clause-some
is_inside-requires-clause-some c =
    let a = c.args.shapes.now in
    (fit_parts (Select (source_of (tree_of a c.args.of)) c.args.part (tree_of a c.args.index)) c.requires.fit).0.0

pub is_inside-requires-clause-few : goal.is_inside-requires-clause-few
is_inside-requires-clause-few c =
    let a = c.args.shapes.now in
    (fit_parts (Select (source_of (tree_of a c.args.of)) c.args.part (tree_of a c.args.index)) c.requires.fit).0.1

pub returns-then-not-names_select : goal.returns-then-not-names_select
returns-then-not-names_select c =
    let a = c.args.shapes.now in
    no_root (design_of a) (source_of (tree_of a c.args.of)) c.args.part (tree_of a c.args.index) c.names_select.result c.names_select.ensures c.if-not-names_select.true

pub returns : goal.returns
returns c =
    let a = c.args.shapes.now in
    with_root (design_of a) (source_of (tree_of a c.args.of)) c.args.part (tree_of a c.args.index) c.names_select.result c.is_inside.result c.names_select.ensures c.if-not-names_select.false c.is_inside.ensures

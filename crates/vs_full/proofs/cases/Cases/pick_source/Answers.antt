use Rattle.std.proofs.Common.{length, option_map, ap, ◌∙◌, arith}
use Rattle.vs_design.specs.Clocks.{name_of}
use Rattle.vs_flat.specs.Arena.{Arena}
use Rattle.vs_flat.specs.DesignOf.{design_of}
use Rattle.vs_shape.specs.Nodes.{tree_of}
use Rattle.vs_full.specs.Roots.{number_of}
use Rattle.vs_full.proofs.Copying.{named_number_there}
use Rattle.vs_full.proofs.Picking.{source_by, source_unpicked}
use Rattle.vs_full.proofs.Selecting.{source_named}
use Rattle.vs_full.proofs.cases.Cases.pick_source.Goals as goal

pub named_number-requires-clause-there : goal.named_number-requires-clause-there
named_number-requires-clause-there c = omega (arith, ap (λ (a : Arena). length a.nodes) c.flat.ensures.same, c.requires.there)

pub pick-requires-clause-there : goal.pick-requires-clause-there
pick-requires-clause-there c =
    let a = c.args.shapes.now in
    let e = tree_of a c.args.e in
    let is = c.in-Some.ensures ∙ ap (λ (x : Arena). option_map number_of (name_of (tree_of x c.args.e))) c.flat.ensures.same in
    named_number_there a (name_of e) c.in-Some.signal is (source_named (design_of a) e c.requires.formed)

pub returns-in-Some : goal.returns-in-Some
returns-in-Some c =
    let a = c.args.shapes.now in
    let is = c.in-Some.ensures ∙ ap (λ (x : Arena). option_map number_of (name_of (tree_of x c.args.e))) c.flat.ensures.same in
    source_by a (tree_of a c.args.e) c.in-Some.signal c.args.picked.now c.pick.new.picked is c.requires.formed c.pick.ensures

pub returns-in-None : goal.returns-in-None
returns-in-None c =
    let a = c.args.shapes.now in
    source_unpicked (design_of a) (tree_of a c.args.e) c.args.picked.now (c.in-None.ensures ∙ ap (λ (x : Arena). option_map number_of (name_of (tree_of x c.args.e))) c.flat.ensures.same)

use Rattle.std.proofs.Common.{length, option_map, ap, ◌∙◌, arith}
use Rattle.vs_design.specs.Clocks.{name_of}
use Rattle.vs_flat.specs.Arena.{Arena}
use Rattle.vs_flat.specs.DesignOf.{design_of}
use Rattle.vs_shape.specs.Nodes.{tree_of}
use Rattle.vs_full.specs.Roots.{number_of}
use Rattle.vs_full.proofs.Copying.{named_number_there, roots_count}
use Rattle.vs_full.proofs.Selecting.{no_name, rooted_name, source_named}
use Rattle.vs_full.proofs.selector.names_select.Goals as goal

pub named_number-requires-clause-there : goal.named_number-requires-clause-there
named_number-requires-clause-there c = omega (arith, ap (λ (a : Arena). length a.nodes) c.flat.ensures.same, c.requires.there)

pub has_root-requires : goal.has_root-requires
has_root-requires c =
    let a = c.args.shapes.now in
    let e = tree_of a c.args.e in
    let is = c.in-Some.ensures ∙ ap (λ (x : Arena). option_map number_of (name_of (tree_of x c.args.e))) c.flat.ensures.same in
    let below = named_number_there a (name_of e) c.in-Some.signal is (source_named (design_of a) e c.requires.formed) in
    omega (arith, below, roots_count a c.args.roots.now c.requires.roots)

pub returns-in-Some : goal.returns-in-Some
returns-in-Some c =
    let a = c.args.shapes.now in
    let is = c.in-Some.ensures ∙ ap (λ (x : Arena). option_map number_of (name_of (tree_of x c.args.e))) c.flat.ensures.same in
    c.has_root.ensures ∙ rooted_name a c.args.roots.now (tree_of a c.args.e) c.in-Some.signal c.requires.roots c.requires.formed is

pub returns-in-None : goal.returns-in-None
returns-in-None c =
    let a = c.args.shapes.now in
    no_name (design_of a) (tree_of a c.args.e) (c.in-None.ensures ∙ ap (λ (x : Arena). option_map number_of (name_of (tree_of x c.args.e))) c.flat.ensures.same)

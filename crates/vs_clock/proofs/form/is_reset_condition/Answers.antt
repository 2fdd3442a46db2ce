use Rattle.std.proofs.Common.{◌||◌, Bool, sym, ap, ◌∙◌, arith, length}
use Rattle.vs_design.specs.Clocks.{name_of}
use Rattle.vs_design.specs.Designs.{Edge}
use Rattle.vs_design.specs.Resets.{inverted, is_condition, is_signal}
use Rattle.vs_flat.specs.Arena.{Arena}
use Rattle.vs_shape.specs.Nodes.{tree_of}
use Rattle.vs_clock.specs.Ports.{bit_of}
use Rattle.vs_clock.proofs.form.is_reset_condition.Goals as goal

pub is_comparison-rises-requires-clause-there : goal.is_comparison-rises-requires-clause-there
is_comparison-rises-requires-clause-there c = c.requires.there

pub is_comparison-rises-requires-clause-fits : goal.is_comparison-rises-requires-clause-fits
is_comparison-rises-requires-clause-fits c = c.requires.fits

pub named_bit-requires-clause-lawful : goal.named_bit-requires-clause-lawful
named_bit-requires-clause-lawful c = c.flat-flat.ensures.lawful

pub named_bit-requires-clause-there : goal.named_bit-requires-clause-there
named_bit-requires-clause-there c = omega (arith, ap (λ (a : Arena). length a.nodes) c.flat-flat.ensures.same, c.requires.there)

pub is_comparison-falls-requires-clause-there : goal.is_comparison-falls-requires-clause-there
is_comparison-falls-requires-clause-there c = c.requires.there

pub is_comparison-falls-requires-clause-fits : goal.is_comparison-falls-requires-clause-fits
is_comparison-falls-requires-clause-fits c = c.requires.fits

pub inverted_bit-requires-clause-lawful : goal.inverted_bit-requires-clause-lawful
inverted_bit-requires-clause-lawful c = c.flat-flat.ensures.lawful

pub inverted_bit-requires-clause-there : goal.inverted_bit-requires-clause-there
inverted_bit-requires-clause-there c = omega (arith, ap (λ (a : Arena). length a.nodes) c.flat-flat.ensures.same, c.requires.there)

pub returns-in-Posedge : goal.returns-in-Posedge
returns-in-Posedge c =
    let tree = tree_of c.args.shapes.now c.args.c in
    let found = c.named_bit.ensures ∙ ap (λ (a : Arena). bit_of (name_of (tree_of a c.args.c))) c.flat-flat.ensures.same in
    c.is_bit_or.ensures (name_of tree) found ∙ ap (λ (z : Bool). is_signal c.args.bit (name_of tree) || z) c.is_comparison-rises.ensures ∙ ap (λ (e : Edge). is_condition e c.args.bit tree) (sym c.in-Posedge.is)

pub returns-in-Negedge : goal.returns-in-Negedge
returns-in-Negedge c =
    let tree = tree_of c.args.shapes.now c.args.c in
    let found = c.inverted_bit.ensures ∙ ap (λ (a : Arena). bit_of (inverted (tree_of a c.args.c))) c.flat-flat.ensures.same in
    c.is_bit_or-in-Negedge.ensures (inverted tree) found ∙ ap (λ (z : Bool). is_signal c.args.bit (inverted tree) || z) c.is_comparison-falls.ensures ∙ ap (λ (e : Edge). is_condition e c.args.bit tree) (sym c.in-Negedge.is)

pub returns-in-Any : goal.returns-in-Any
returns-in-Any c = ap (λ (e : Edge). is_condition e c.args.bit (tree_of c.args.shapes.now c.args.c)) (sym c.in-Any.is)

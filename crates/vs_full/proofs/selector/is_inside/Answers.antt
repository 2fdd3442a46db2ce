use Rattle.std.proofs.Common.{Bool, ◌&&◌, sym, ap, ◌∙◌}
use Rattle.vs_four.specs.Selects.{places}
use Rattle.vs_design.specs.Expressions.{sign}
use Rattle.vs_design.specs.Values.{constant_value}
use Rattle.vs_shape.specs.declared.shape.Shape.{Shape}
use Rattle.vs_shape.specs.Nodes.{tree_of}
use Rattle.vs_sets.proofs.Fit.{fits-from_fit}
use Rattle.vs_full.proofs.Selecting.{failed, held, inside_all}
use Rattle.vs_full.proofs.selector.is_inside.Goals as goal

pub constant_value-requires-clause-valued : goal.constant_value-requires-clause-valued
constant_value-requires-clause-valued c =
    let index = tree_of c.args.shapes.now c.args.index in
    record { constant = ap (λ (s : Shape). s.constant) (sym c.shape-shape.ensures) ∙ held c.shape-shape.result.constant c.if-not-shape.false; fits = fits-from_fit index c.requires.fit }

pub returns-then-not-shape : goal.returns-then-not-shape
returns-then-not-shape c =
    let index = tree_of c.args.shapes.now c.args.index in
    sym (ap (λ (t : Bool). t && inside_all (places c.args.part (sign index) (constant_value index))) (ap (λ (s : Shape). s.constant) (sym c.shape-shape.ensures) ∙ failed c.shape-shape.result.constant c.if-not-shape.true))

pub returns : goal.returns
returns c =
    let index = tree_of c.args.shapes.now c.args.index in
    c.are_inside.ensures
    ∙ ap inside_all (c.places_of.ensures.value ∙ ap (λ (s : Shape). places c.args.part s.signed c.constant_value.result) c.shape-shape.ensures ∙ ap (places c.args.part (sign index)) c.constant_value.ensures.value)
    ∙ sym (ap (λ (t : Bool). t && inside_all (places c.args.part (sign index) (constant_value index))) (ap (λ (s : Shape). s.constant) (sym c.shape-shape.ensures) ∙ held c.shape-shape.result.constant c.if-not-shape.false))

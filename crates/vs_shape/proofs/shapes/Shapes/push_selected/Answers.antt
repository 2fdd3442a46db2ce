use Rattle.std.proofs.Common.{◌<◌, ◌∙◌, ap, sym, refl, arith}
use Rattle.vs_design.specs.Expressions.{OfSignal}
use Rattle.vs_design.specs.Footprints.{somes}
use Rattle.vs_four.specs.Selects.{range_length}
use Rattle.vs_flat.specs.Trees.{signal_of}
use Rattle.vs_shape.specs.Gathered.{bits_from}
use Rattle.vs_shape.specs.Nodes.{tree_of}
use Rattle.vs_shape.specs.declared.shape.Shape.{Shape}
use Rattle.vs_shape.proofs.Gathering.{selected_constant, one_added}
use Rattle.vs_shape.proofs.shapes.Shapes.push_selected.Goals as goal

pub push_places-requires : goal.push_places-requires
push_places-requires c k n at =
    let inside : n < range_length c.args.range = c.places_of-places.ensures.inside k n at in
    omega (arith, inside, c.requires.room, c.requires.range)

pub returns : goal.returns
returns c m =
    one_added c.push_places.result c.args.out.now.items c.push_places.new.out.items _ _ c.push_places.ensures
    (selected_constant c.args.whole c.shape-shape.result.constant (OfSignal (signal_of m c.args.s.now)) (signal_of m c.args.s.now)
    (record { range = c.args.range; up = c.args.up; width = c.args.width }) (tree_of c.args.self.now c.args.index) c.args.s.now.first_bit c.shape-shape.result.signed c.constant_value.result c.if-whole.false c.if-not-shape.false
    (ap (λ (s : Shape). s.constant) c.shape-shape.ensures) refl refl
    (ap (λ (s : Shape). s.signed) c.shape-shape.ensures) c.constant_value.ensures.value
    ∙ ap (λ ps. somes (bits_from c.args.s.now.first_bit ps)) (sym c.places_of-places.ensures.value))

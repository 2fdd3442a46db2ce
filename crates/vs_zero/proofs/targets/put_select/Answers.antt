use Rattle.std.proofs.Common.{length, sym, ap, ap₂, ◌∙◌, arith}
use Rattle.vs_four.specs.Selects.{places}
use Rattle.vs_net.specs.Network.{write_all}
use Rattle.vs_design.specs.Bodies.{target_writes}
use Rattle.vs_design.specs.Expressions as E
use Rattle.vs_flat.specs.Targets.{source_of}
use Rattle.vs_sets.specs.Nodes.{tree_of}
use Rattle.vs_sets.specs.Tables.{bits_from}
use Rattle.vs_sets.specs.TargetsOf.{target_tree}
use Rattle.vs_sets.proofs.TargetFacts.{part_signal}
use Rattle.vs_zero.specs.States.{state_of, unknown, written}
use Rattle.vs_zero.proofs.Below.{part_below}
use Rattle.vs_zero.proofs.targets.put_select.Goals as goal

pub put_places-requires-clause-inside : goal.put_places-requires-clause-inside
put_places-requires-clause-inside c k n h =
    let src = source_of (tree_of c.args.shapes.now c.args.of) in
    let index = tree_of c.args.shapes.now c.args.index in
    let named = part_signal src c.args.part index c.requires.target in
    let value = c.places_of-places.ensures.value ∙ ap₂ (λ s i. places c.args.part s i) (ap (λ s. s.signed) c.shape-signed.ensures) c.constant_value.ensures.value in
    let below = part_below (length c.args.state.now) src named.0 c.args.part index named.1 c.requires.constant c.requires.within k n (rw value at h) in
    omega (arith, below, c.named_span-span.ensures.first named.0 named.1)

pub put_places-requires-clause-same_length : goal.put_places-requires-clause-same_length
put_places-requires-clause-same_length c = c.requires.many ∙ sym c.places_of-places.ensures.length

pub returns : goal.returns
returns c =
    let a = c.args.shapes.now in
    let st = state_of c.args.state.now in
    let index = tree_of a c.args.index in
    let src = source_of (tree_of a c.args.of) in
    let named = part_signal src c.args.part index c.requires.target in
    let signal = named.0 in
    let value = c.args.value.now in
    c.put_places.ensures
    ∙ ap (λ f. written (bits_from f c.places_of-places.result) value st) (c.named_span-span.ensures.first named.0 named.1)
    ∙ ap (λ ps. written (bits_from signal.first ps) value st) c.places_of-places.ensures.value
    ∙ ap₂ (λ s i. written (bits_from signal.first (places c.args.part s i)) value st) (ap (λ s. s.signed) c.shape-signed.ensures) c.constant_value.ensures.value
    ∙ ap (λ (x : E.Source). write_all st (target_writes (target_tree (E.Select x c.args.part index)) value unknown)) (sym named.1)

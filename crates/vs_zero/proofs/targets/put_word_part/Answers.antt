use Rattle.std.proofs.Common.{◌≡◌, ◌+◌, ◌*◌, length, sym, ap, ap₂, ◌∙◌, arith}
use Rattle.vs_four.specs.Selects.{range_length, places}
use Rattle.vs_design.specs.Expressions as E
use Rattle.vs_design.specs.Values.{address_place, constant_value}
use Rattle.vs_sets.specs.Nodes.{signal_of, tree_of}
use Rattle.vs_shape.specs.declared.shape.Shape.{Shape}
use Rattle.vs_shape.proofs.WordParts.{place_found}
use Rattle.vs_sets.proofs.TargetFacts.{word_part_facts}
use Rattle.vs_sets.proofs.WordSteps.{word_ends}
use Rattle.vs_zero.specs.States.{state_of}
use Rattle.vs_zero.proofs.PartWrites.{part_below, part_unput, part_put}
use Rattle.vs_zero.proofs.targets.put_word_part.Goals as goal

pub places_of-places-requires-clause-some : goal.places_of-places-requires-clause-some
places_of-places-requires-clause-some c = (word_part_facts (signal_of c.args.shapes.now c.args.signal) (tree_of c.args.shapes.now c.args.address) c.args.part (tree_of c.args.shapes.now c.args.index) c.requires.target).few.0

pub places_of-places-requires-clause-most : goal.places_of-places-requires-clause-most
places_of-places-requires-clause-most c = (word_part_facts (signal_of c.args.shapes.now c.args.signal) (tree_of c.args.shapes.now c.args.address) c.args.part (tree_of c.args.shapes.now c.args.index) c.requires.target).few.1

pub word_start-requires : goal.word_start-requires
word_start-requires c =
    let memory = c.memory_of-memory in
    let ends = word_ends (range_length memory.result.addresses) memory.result.len c.in-Some.n (c.word_place.ensures.inside c.in-Some.n c.in-Some.is) in
    omega (arith, ends, memory.ensures.small)

pub put_places-requires-clause-inside : goal.put_places-requires-clause-inside
put_places-requires-clause-inside c k m h =
    let s = signal_of c.args.shapes.now c.args.signal in
    let address = tree_of c.args.shapes.now c.args.address in
    let index = tree_of c.args.shapes.now c.args.index in
    let memory = c.memory_of-memory in
    let place : address_place s (E.sign address) (constant_value address) ≡ c.word_place.result =
    place_found s address memory.result.addresses c.shape-signed.result.signed c.constant_value.result c.word_place.result memory.ensures.addresses (ap (λ (x : Shape). x.signed) c.shape-signed.ensures) c.constant_value.ensures.value c.word_place.ensures.value
    in
    let places_are : c.places_of-places.result ≡ places c.args.part (E.sign index) (constant_value index) = c.places_of-places.ensures.value ∙ ap₂ (λ g v. places c.args.part g v) (ap (λ (x : Shape). x.signed) c.shape-by.ensures) c.constant_value-in-Some.ensures.value in
    let begins : c.word_start.result ≡ s.first + c.in-Some.n * E.word_length s = c.word_start.ensures ∙ ap₂ (λ f l. f + c.in-Some.n * l) memory.ensures.first memory.ensures.len in
    let below = part_below s address c.args.part index (length c.args.state.now) c.word_part_law.ensures.words c.requires.constant_address c.requires.constant (word_part_facts (signal_of c.args.shapes.now c.args.signal) (tree_of c.args.shapes.now c.args.address) c.args.part (tree_of c.args.shapes.now c.args.index) c.requires.target).range c.in-Some.n (place ∙ c.in-Some.is) c.requires.within k m (rw places_are at h) in
    omega (arith, below, begins)

pub put_places-requires-clause-same_length : goal.put_places-requires-clause-same_length
put_places-requires-clause-same_length c = c.requires.many ∙ sym c.places_of-places.ensures.length

pub returns-in-None : goal.returns-in-None
returns-in-None c =
    let s = signal_of c.args.shapes.now c.args.signal in
    let address = tree_of c.args.shapes.now c.args.address in
    let index = tree_of c.args.shapes.now c.args.index in
    let memory = c.memory_of-memory in
    let place : address_place s (E.sign address) (constant_value address) ≡ c.word_place.result =
    place_found s address memory.result.addresses c.shape-signed.result.signed c.constant_value.result c.word_place.result memory.ensures.addresses (ap (λ (x : Shape). x.signed) c.shape-signed.ensures) c.constant_value.ensures.value c.word_place.ensures.value
    in
    part_unput s address c.args.part index c.args.value.now (state_of c.args.state.now) c.word_part_law.ensures.none (place ∙ c.in-None.is)

pub returns-in-Some : goal.returns-in-Some
returns-in-Some c =
    let s = signal_of c.args.shapes.now c.args.signal in
    let address = tree_of c.args.shapes.now c.args.address in
    let index = tree_of c.args.shapes.now c.args.index in
    let memory = c.memory_of-memory in
    let place : address_place s (E.sign address) (constant_value address) ≡ c.word_place.result =
    place_found s address memory.result.addresses c.shape-signed.result.signed c.constant_value.result c.word_place.result memory.ensures.addresses (ap (λ (x : Shape). x.signed) c.shape-signed.ensures) c.constant_value.ensures.value c.word_place.ensures.value
    in
    let places_are : c.places_of-places.result ≡ places c.args.part (E.sign index) (constant_value index) = c.places_of-places.ensures.value ∙ ap₂ (λ g v. places c.args.part g v) (ap (λ (x : Shape). x.signed) c.shape-by.ensures) c.constant_value-in-Some.ensures.value in
    let begins : c.word_start.result ≡ s.first + c.in-Some.n * E.word_length s = c.word_start.ensures ∙ ap₂ (λ f l. f + c.in-Some.n * l) memory.ensures.first memory.ensures.len in
    c.put_places.ensures ∙ part_put s address c.args.part index c.args.value.now (state_of c.args.state.now) c.word_part_law.ensures.words c.in-Some.n c.word_start.result c.places_of-places.result (word_part_facts (signal_of c.args.shapes.now c.args.signal) (tree_of c.args.shapes.now c.args.address) c.args.part (tree_of c.args.shapes.now c.args.index) c.requires.target).range (place ∙ c.in-Some.is) begins places_are

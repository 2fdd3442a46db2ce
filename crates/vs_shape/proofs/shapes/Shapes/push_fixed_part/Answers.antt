use Rattle.std.proofs.Common.{◌≡◌, ◌+◌, ◌*◌, ◌<◌, length, sym, ap, ◌∙◌, subst, arith}
use Rattle.vs_four.specs.Selects.{range_length, places}
use Rattle.vs_design.specs.Expressions as E
use Rattle.vs_design.specs.Values.{address_place, constant_value}
use Rattle.vs_flat.specs.Arena.{Arena}
use Rattle.vs_flat.specs.Trees.{signal_at, signal_of}
use Rattle.vs_flat.specs.DesignOf.{arena_signals}
use Rattle.vs_shape.specs.Nodes.{tree_of}
use Rattle.vs_shape.specs.declared.shape.Shape.{Shape}
use Rattle.vs_shape.proofs.Gathering.{one_added}
use Rattle.vs_shape.proofs.Addressed.{word_short, word_room}
use Rattle.vs_shape.proofs.WordParts.{part_fits, part_of_none, part_of_some, place_found}
use Rattle.vs_shape.proofs.shapes.Shapes.push_fixed_part.Goals as goal

pub length_of-requires : goal.length_of-requires
length_of-requires c = word_short c.trees_law.ensures.signals c.trees_law.ensures.counts c.flat.result.now c.flat.ensures.lawful c.args.signal c.signal-s.result.now c.signal-s.ensures
    (subst (λ (x : Arena). c.args.signal < length x.signals) (sym c.flat.ensures.same) c.requires.memory)

pub word_start-start-requires : goal.word_start-start-requires
word_start-start-requires c =
    let room = word_room c.trees_law.ensures.signals c.trees_law.ensures.counts c.flat.result.now c.flat.ensures.lawful c.args.signal c.signal-s.result.now c.signal-s.ensures
    (subst (λ (x : Arena). c.args.signal < length x.signals) (sym c.flat.ensures.same) c.requires.memory) c.addresses_of.result c.length_of.result c.in-Some.n c.addresses_of.ensures c.length_of.ensures (c.word_place-place.ensures.inside c.in-Some.n c.in-Some.is) in
    omega (arith, room)

pub places_of-places-requires-clause-some : goal.places_of-places-requires-clause-some
places_of-places-requires-clause-some c = (part_fits (signal_at (arena_signals c.args.self.now) c.args.signal) c.args.part c.requires.fit.part_fits).0

pub places_of-places-requires-clause-most : goal.places_of-places-requires-clause-most
places_of-places-requires-clause-most c = (part_fits (signal_at (arena_signals c.args.self.now) c.args.signal) c.args.part c.requires.fit.part_fits).1

pub push_places-requires : goal.push_places-requires
push_places-requires c k m at =
    let n = c.args.signal in
    let is : signal_at (arena_signals c.args.self.now) n ≡ signal_of n c.signal-s.result.now =
    ap (λ (x : Arena). signal_at (arena_signals x) n) (sym c.flat.ensures.same) ∙ c.trees_law.ensures.signals c.flat.result.now n c.signal-s.result.now c.signal-s.ensures
    in
    let signal = signal_at (arena_signals c.args.self.now) n in
    let fits = part_fits signal c.args.part c.requires.fit.part_fits in
    let room = word_room c.trees_law.ensures.signals c.trees_law.ensures.counts c.flat.result.now c.flat.ensures.lawful c.args.signal c.signal-s.result.now c.signal-s.ensures
    (subst (λ (x : Arena). c.args.signal < length x.signals) (sym c.flat.ensures.same) c.requires.memory) c.addresses_of.result c.length_of.result c.in-Some.n c.addresses_of.ensures c.length_of.ensures (c.word_place-place.ensures.inside c.in-Some.n c.in-Some.is) in
    let inside : m < range_length c.args.part.range = c.places_of-places.ensures.inside k m at in
    let long : range_length c.args.part.range ≡ c.length_of.result = fits.2 ∙ ap E.word_length is ∙ sym c.length_of.ensures in
    omega (arith, inside, long, room, c.word_start-start.ensures)

pub returns-in-None : goal.returns-in-None
returns-in-None c =
    let n = c.args.signal in
    let is : signal_at (arena_signals c.args.self.now) n ≡ signal_of n c.signal-s.result.now =
    ap (λ (x : Arena). signal_at (arena_signals x) n) (sym c.flat.ensures.same) ∙ c.trees_law.ensures.signals c.flat.result.now n c.signal-s.result.now c.signal-s.ensures
    in
    let signal = signal_at (arena_signals c.args.self.now) n in
    let fits = part_fits signal c.args.part c.requires.fit.part_fits in
    let found : address_place signal (E.sign (tree_of c.args.self.now c.args.address)) (constant_value (tree_of c.args.self.now c.args.address)) ≡ c.word_place-place.result =
    place_found signal (tree_of c.args.self.now c.args.address) c.addresses_of.result c.shape.result.signed c.constant_value-at.result c.word_place-place.result (c.addresses_of.ensures ∙ sym (ap E.addresses is)) (ap (λ (s : Shape). s.signed) c.shape.ensures) c.constant_value-at.ensures.value c.word_place-place.ensures.value
    in
    part_of_none c.word_part_law.ensures.none c.args.out.now.items signal (E.sign (tree_of c.args.self.now c.args.address)) (constant_value (tree_of c.args.self.now c.args.address)) c.args.part
    (E.sign (tree_of c.args.self.now c.args.base)) (constant_value (tree_of c.args.self.now c.args.base)) (found ∙ c.in-None.is)

pub returns-in-Some : goal.returns-in-Some
returns-in-Some c =
    let n = c.args.signal in
    let is : signal_at (arena_signals c.args.self.now) n ≡ signal_of n c.signal-s.result.now =
    ap (λ (x : Arena). signal_at (arena_signals x) n) (sym c.flat.ensures.same) ∙ c.trees_law.ensures.signals c.flat.result.now n c.signal-s.result.now c.signal-s.ensures
    in
    let signal = signal_at (arena_signals c.args.self.now) n in
    let fits = part_fits signal c.args.part c.requires.fit.part_fits in
    let found : address_place signal (E.sign (tree_of c.args.self.now c.args.address)) (constant_value (tree_of c.args.self.now c.args.address)) ≡ c.word_place-place.result =
    place_found signal (tree_of c.args.self.now c.args.address) c.addresses_of.result c.shape.result.signed c.constant_value-at.result c.word_place-place.result (c.addresses_of.ensures ∙ sym (ap E.addresses is)) (ap (λ (s : Shape). s.signed) c.shape.ensures) c.constant_value-at.ensures.value c.word_place-place.ensures.value
    in
    let begins : c.word_start-start.result ≡ signal.first + c.in-Some.n * E.word_length signal =
    c.word_start-start.ensures ∙ ap (λ f. f + c.in-Some.n * c.length_of.result) (sym (ap (λ (x : E.Signal). x.first) is)) ∙ ap (λ l. signal.first + c.in-Some.n * l) (c.length_of.ensures ∙ sym (ap E.word_length is))
    in
    let index : c.places_of-places.result ≡ places c.args.part (E.sign (tree_of c.args.self.now c.args.base)) (constant_value (tree_of c.args.self.now c.args.base)) =
    c.places_of-places.ensures.value ∙ ap (λ g. places c.args.part g c.constant_value-by.result) (ap (λ (s : Shape). s.signed) c.shape-in-Some.ensures) ∙ ap (places c.args.part (E.sign (tree_of c.args.self.now c.args.base))) c.constant_value-by.ensures.value
    in
    one_added c.push_places.result c.args.out.now.items c.push_places.new.out.items _ _ c.push_places.ensures
    (part_of_some c.word_part_law.ensures.words signal (E.sign (tree_of c.args.self.now c.args.address)) (constant_value (tree_of c.args.self.now c.args.address)) c.args.part (E.sign (tree_of c.args.self.now c.args.base)) (constant_value (tree_of c.args.self.now c.args.base))
    c.in-Some.n c.word_start-start.result c.places_of-places.result fits.2 (found ∙ c.in-Some.is) begins index)

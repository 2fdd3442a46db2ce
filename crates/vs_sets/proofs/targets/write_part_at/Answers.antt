use Rattle.std.proofs.Common.{◌≡◌, ◌+◌, ◌*◌, ◌≤◌, length, refl, sym, ap, ap₂, ◌∙◌, arith}
use Rattle.vs_four.specs.Selects.{range_length}
use Rattle.vs_design.specs.Expressions as E
use Rattle.vs_design.specs.Values.{address_place, constant_value}
use Rattle.vs_sets.specs.Nodes.{signal_of, tree_of}
use Rattle.vs_sets.specs.Tables.{family_of}
use Rattle.vs_shape.specs.declared.shape.Shape.{Shape}
use Rattle.vs_shape.proofs.WordParts.{place_found}
use Rattle.vs_sets.proofs.PartWrites.{part_nowhere, part_there}
use Rattle.vs_sets.proofs.TargetFacts.{word_part_facts, word_part_ends_at}
use Rattle.vs_sets.proofs.Widths.{words_are}
use Rattle.vs_sets.proofs.WordSteps.{word_ends}
use Rattle.vs_sets.proofs.targets.write_part_at.Goals as goal

pub write_in_word-requires-clause-inside : goal.write_in_word-requires-clause-inside
write_in_word-requires-clause-inside c =
    let s = signal_of c.args.shapes.now c.args.signal in
    let address = tree_of c.args.shapes.now c.args.address in
    let index = tree_of c.args.shapes.now c.args.index in
    let memory = c.memory_of-memory in
    let count = range_length memory.result.addresses in
    let ends = word_ends count memory.result.len c.in-Some.n (c.word_place.ensures.inside c.in-Some.n c.in-Some.is) in
    let bits : count * memory.result.len ≡ E.signal_length s = ap₂ (λ r k. range_length r * k) memory.ensures.addresses memory.ensures.len ∙ sym (words_are s) in
    let most : s.first + E.signal_length s ≤ length c.args.table.now = word_part_ends_at (length c.args.table.now) s address c.args.part index c.requires.within in
    omega (arith, ends, bits, most, memory.ensures.first)

pub write_in_word-requires-clause-fit : goal.write_in_word-requires-clause-fit
write_in_word-requires-clause-fit c = (word_part_facts (signal_of c.args.shapes.now c.args.signal) (tree_of c.args.shapes.now c.args.address) c.args.part (tree_of c.args.shapes.now c.args.index) c.requires.target).index_fit

pub write_in_word-requires-clause-few : goal.write_in_word-requires-clause-few
write_in_word-requires-clause-few c = (word_part_facts (signal_of c.args.shapes.now c.args.signal) (tree_of c.args.shapes.now c.args.address) c.args.part (tree_of c.args.shapes.now c.args.index) c.requires.target).few

pub write_in_word-requires-clause-long : goal.write_in_word-requires-clause-long
write_in_word-requires-clause-long c = (word_part_facts (signal_of c.args.shapes.now c.args.signal) (tree_of c.args.shapes.now c.args.address) c.args.part (tree_of c.args.shapes.now c.args.index) c.requires.target).range ∙ sym c.memory_of-memory.ensures.len

pub returns-in-None : goal.returns-in-None
returns-in-None c =
    let s = signal_of c.args.shapes.now c.args.signal in
    let address = tree_of c.args.shapes.now c.args.address in
    let index = tree_of c.args.shapes.now c.args.index in
    let memory = c.memory_of-memory in
    let place : address_place s (E.sign address) (constant_value address) ≡ c.word_place.result =
    place_found s address memory.result.addresses c.shape-at.result.signed c.constant_value.result c.word_place.result memory.ensures.addresses (ap (λ (s : Shape). s.signed) c.shape-at.ensures) c.constant_value.ensures.value c.word_place.ensures.value
    in
    part_nowhere s address c.args.part index c.args.sets.now (family_of c.args.table.now) c.word_part_law.ensures.none (family_of c.args.table.now) c.requires.constant (place ∙ c.in-None.is) refl

pub returns-in-Some : goal.returns-in-Some
returns-in-Some c =
    let s = signal_of c.args.shapes.now c.args.signal in
    let address = tree_of c.args.shapes.now c.args.address in
    let index = tree_of c.args.shapes.now c.args.index in
    let memory = c.memory_of-memory in
    let place : address_place s (E.sign address) (constant_value address) ≡ c.word_place.result =
    place_found s address memory.result.addresses c.shape-at.result.signed c.constant_value.result c.word_place.result memory.ensures.addresses (ap (λ (s : Shape). s.signed) c.shape-at.ensures) c.constant_value.ensures.value c.word_place.ensures.value
    in
    part_there s address c.args.part index c.args.sets.now (family_of c.args.table.now) c.word_part_law.ensures.words c.in-Some.n (memory.result.first + c.in-Some.n * memory.result.len) memory.result.len (family_of c.write_in_word.new.table)
    (word_part_facts (signal_of c.args.shapes.now c.args.signal) (tree_of c.args.shapes.now c.args.address) c.args.part (tree_of c.args.shapes.now c.args.index) c.requires.target).range c.requires.constant (place ∙ c.in-Some.is) (ap₂ (λ f l. f + c.in-Some.n * l) memory.ensures.first memory.ensures.len) memory.ensures.len c.write_in_word.ensures

use Rattle.std.proofs.Common.{◌≡◌, ◌<◌, sym, ap, ◌∙◌, subst, length}
use Rattle.vs_design.specs.Expressions as E
use Rattle.vs_flat.specs.Arena.{Arena}
use Rattle.vs_flat.specs.Trees.{signal_at, signal_of}
use Rattle.vs_flat.specs.DesignOf.{arena_signals}
use Rattle.vs_shape.specs.Nodes.{tree_of}
use Rattle.vs_shape.specs.declared.shape.Shape.{Shape}
use Rattle.vs_shape.proofs.Gathering.{one_added}
use Rattle.vs_shape.proofs.Addressed.{word_short, word_room, addressed_found}
use Rattle.vs_shape.proofs.shapes.Shapes.push_addressed.Goals as goal

pub length_of-requires : goal.length_of-requires
length_of-requires c =
    word_short c.trees_law.ensures.signals c.trees_law.ensures.counts c.flat-flat.result.now c.flat-flat.ensures.lawful c.args.signal c.signal-s.result.now c.signal-s.ensures
    (subst (λ (x : Arena). c.args.signal < length x.signals) (sym c.flat-flat.ensures.same) c.requires.memory)

pub push_word-requires : goal.push_word-requires
push_word-requires c n at =
    word_room c.trees_law.ensures.signals c.trees_law.ensures.counts c.flat-flat.result.now c.flat-flat.ensures.lawful c.args.signal c.signal-s.result.now c.signal-s.ensures
    (subst (λ (x : Arena). c.args.signal < length x.signals) (sym c.flat-flat.ensures.same) c.requires.memory) c.addresses_of.result c.length_of.result n c.addresses_of.ensures c.length_of.ensures (c.word_place-place.ensures.inside n at)

pub returns : goal.returns
returns c =
    let n = c.args.signal in
    let is : signal_at (arena_signals c.args.self.now) n ≡ signal_of n c.signal-s.result.now =
    ap (λ (x : Arena). signal_at (arena_signals x) n) (sym c.flat-flat.ensures.same) ∙ c.trees_law.ensures.signals c.flat-flat.result.now n c.signal-s.result.now c.signal-s.ensures
    in
    one_added c.push_word.result c.args.out.now.items c.push_word.new.out.items _ _ c.push_word.ensures
    (addressed_found c.args.whole c.shape-shape.result.constant (signal_at (arena_signals c.args.self.now) n) (tree_of c.args.self.now c.args.index) c.signal-s.result.now.first_bit c.length_of.result c.addresses_of.result c.shape-shape.result.signed
    c.constant_value.result c.word_place-place.result c.if-whole.false c.if-not-shape.false (ap (λ (s : Shape). s.constant) c.shape-shape.ensures) (sym (ap (λ (x : E.Signal). x.first) is)) (c.length_of.ensures ∙ sym (ap E.word_length is))
    (c.addresses_of.ensures ∙ sym (ap E.addresses is)) (ap (λ (s : Shape). s.signed) c.shape-shape.ensures) c.constant_value.ensures.value c.word_place-place.ensures.value)

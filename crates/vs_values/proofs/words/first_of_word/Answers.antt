use Rattle.std.proofs.Common.{◌≡◌, ◌∙◌, ◌+◌, ◌*◌, ◌<◌, ◌≤◌, ℕ, slice_get, Some, sym, ap, subst, arith}
use Rattle.std.specs.Prelude.{option_map}
use Rattle.vs_four.specs.Selects.{range_length}
use Rattle.vs_four.specs.declared.Range.{Range}
use Rattle.vs_design.specs.Expressions as E
use Rattle.vs_design.specs.Expressions.{addresses, word_length, signal_length}
use Rattle.vs_flat.specs.Arena.{Arena}
use Rattle.vs_flat.specs.DesignOf.{arena_signals}
use Rattle.vs_flat.specs.Trees.{signal_of, signal_at}
use Rattle.vs_values.specs.Constants.{constant_bits}
use Rattle.vs_values.proofs.Named.{signal_within}
use Rattle.vs_values.proofs.Wording.{word_ends, place_of_word, first_of, first_within}
use Rattle.vs_values.proofs.words.first_of_word.Goals as goal

pub first_at-requires : goal.first_at-requires
first_at-requires c = λ n e.
    let a = c.args.templates.now.arena in
    let s = c.signal.result.now in
    let signal = signal_at (arena_signals a) c.args.signal in
    let at : slice_get a.signals c.args.signal ≡ Some s = ap (λ (x : Arena). slice_get x.signals c.args.signal) (sym c.flat.ensures.same) ∙ c.signal.ensures in
    let is : signal ≡ signal_of c.args.signal s = c.trees_law.ensures.signals a c.args.signal s at in
    let first : signal.first ≡ s.first_bit = ap (λ (x : E.Signal). x.first) is in
    let less : n < range_length (addresses signal) = subst (λ (r : Range). n < range_length r) c.memory_addresses.ensures (c.word_place-place.ensures.inside n e) in
    let ends : n * c.word_width-width.result + c.word_width-width.result ≤ signal_length signal = subst (λ (k : ℕ). n * k + k ≤ signal_length signal) (sym c.word_width-width.ensures) (word_ends signal n less) in
    let within = signal_within a c.args.signal c.flat.ensures.lawful.design.bits_numbered c.requires.signal in
    let few = c.flat.ensures.lawful.design.few_bits in
    let count = (c.trees_law.ensures.counts a).bits in
    omega (arith, first, ends, within, few, count)

pub returns-clause-value : goal.returns-clause-value
returns-clause-value c =
    let a = c.args.templates.now.arena in
    let s = c.signal.result.now in
    let signal = signal_at (arena_signals a) c.args.signal in
    let at : slice_get a.signals c.args.signal ≡ Some s = ap (λ (x : Arena). slice_get x.signals c.args.signal) (sym c.flat.ensures.same) ∙ c.signal.ensures in
    let is : signal ≡ signal_of c.args.signal s = c.trees_law.ensures.signals a c.args.signal s at in
    let place = c.word_place-place.result in
    c.first_at.ensures
    ∙ ap (λ (f : ℕ). option_map (λ n. f + n * c.word_width-width.result) place) (sym (ap (λ (x : E.Signal). x.first) is))
    ∙ ap (λ (k : ℕ). option_map (λ n. signal.first + n * k) place) c.word_width-width.ensures
    ∙ ap (first_of signal) (place_of_word signal c.args.signed c.memory_addresses.result c.in_ok-bits.bits (constant_bits c.args.address.now) place c.memory_addresses.ensures c.in_ok-bits.ensures c.word_place-place.ensures.value)

pub returns-clause-inside : goal.returns-clause-inside
returns-clause-inside c = λ b e.
    let a = c.args.templates.now.arena in
    let s = c.signal.result.now in
    let signal = signal_at (arena_signals a) c.args.signal in
    let at : slice_get a.signals c.args.signal ≡ Some s = ap (λ (x : Arena). slice_get x.signals c.args.signal) (sym c.flat.ensures.same) ∙ c.signal.ensures in
    let is : signal ≡ signal_of c.args.signal s = c.trees_law.ensures.signals a c.args.signal s at in
    let place = c.word_place-place.result in
    let first : first_of signal place ≡ Some b =
    ap (λ (k : ℕ). option_map (λ n. signal.first + n * k) place) (sym c.word_width-width.ensures)
    ∙ ap (λ (f : ℕ). option_map (λ n. f + n * c.word_width-width.result) place) (ap (λ (x : E.Signal). x.first) is)
    ∙ sym c.first_at.ensures ∙ e in
    let inside = λ (n : ℕ) (h : place ≡ Some n). subst (λ (r : Range). n < range_length r) c.memory_addresses.ensures (c.word_place-place.ensures.inside n h) in
    omega (arith, first_within signal place b inside first)

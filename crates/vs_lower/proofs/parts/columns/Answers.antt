use Rattle.std.proofs.Common.{◌≡◌, ◌∙◌, ◌++◌, ◌+◌, ◌*◌, ◌<◌, ◌≤◌, ℕ, List, sym, ap, arith}
use Rattle.vs_four.specs.Selects.{range_length}
use Rattle.vs_four.specs.declared.Range.{Range}
use Rattle.vs_flat.specs.DesignOf.{arena_signals}
use Rattle.vs_flat.specs.Trees.{signal_at, signal_of}
use Rattle.vs_design.specs.Expressions.{Signal, signal_length, word_length, addresses}
use Rattle.vs_lower.specs.Parts.{bits_there}
use Rattle.vs_values.proofs.Wording.{word_ends}
use Rattle.vs_lower.proofs.Columns.{columns_from, columns_more}
use Rattle.vs_lower.proofs.parts.columns.Goals as goal

-- where word n of the memory ends
ends : (signal : Signal) (n first width count : ℕ) → n < count → count ≡ range_length (addresses signal) → first ≡ signal.first → width ≡ word_length signal → signal.first + signal_length signal ≤ 67108864
    → first + n * width + width ≤ 67108864
ends signal n first width count l e f g h =
    let end = word_ends signal n (omega (arith, e)) in
    let same : n * width ≡ n * word_length signal = ap (λ (k : ℕ). n * k) g in
    omega (arith, end, same)

pub word_start-requires : goal.word_start-requires
word_start-requires c =
    let s = signal_at (arena_signals c.args.templates.now.arena) c.args.signal in
    let is : s ≡ signal_of c.args.signal c.declared.result.now = c.declared.ensures.is in
    let whole : s.first + signal_length s ≤ 67108864 = omega (arith, ap (λ (x : Signal). x.first) is, ap signal_length is, c.declared.ensures.few) in
    omega (arith, ends s c.loop-n.n c.declared.result.now.first_bit c.word_width-width.result (range_length c.memory_addresses.result) (omega (arith, c.loop-n-test.true, c.length-count.ensures)) (ap (λ (r : Range). range_length r) c.memory_addresses.ensures) (sym (ap (λ (x : Signal). x.first) is)) c.word_width-width.ensures whole)

pub push_there-requires : goal.push_there-requires
push_there-requires c = λ k n e.
    let s = signal_at (arena_signals c.args.templates.now.arena) c.args.signal in
    let is : s ≡ signal_of c.args.signal c.declared.result.now = c.declared.ensures.is in
    let whole : s.first + signal_length s ≤ 67108864 = omega (arith, ap (λ (x : Signal). x.first) is, ap signal_length is, c.declared.ensures.few) in
    let low : n < word_length s = c.requires.inside k n e in
    omega (
      arith,
      low,
      c.word_start.ensures,
      c.word_width-width.ensures,
      ends s c.loop-n.n c.declared.result.now.first_bit c.word_width-width.result (range_length c.memory_addresses.result) (omega (arith, c.loop-n-test.true, c.length-count.ensures)) (ap (λ (r : Range). range_length r) c.memory_addresses.ensures) (sym (ap (λ (x : Signal). x.first) is)) c.word_width-width.ensures whole,
    )

pub loop-n-preserved : goal.loop-n-preserved
loop-n-preserved c =
    let s = signal_at (arena_signals c.args.templates.now.arena) c.args.signal in
    let is : s ≡ signal_of c.args.signal c.declared.result.now = c.declared.ensures.is in
    let start : c.word_start.result ≡ s.first + c.loop-n.n * word_length s =
    c.word_start.ensures ∙ ap (λ (k : ℕ). c.declared.result.now.first_bit + c.loop-n.n * k) c.word_width-width.ensures ∙ ap (λ (x : Signal). x.first + c.loop-n.n * word_length s) (sym is) in
    c.in_ok-push_there.ensures
    ∙ ap (λ (k : ℕ). c.loop-n.bits.items ++ bits_there k c.args.places.now) start
    ∙ ap (λ (xs : List ℕ). xs ++ bits_there (s.first + c.loop-n.n * word_length s) c.args.places.now) c.loop-n.invariant
    ∙ columns_more s c.args.places.now c.loop-n.n

pub returns : goal.returns
returns c =
    let s = signal_at (arena_signals c.args.templates.now.arena) c.args.signal in
    let end : c.loop-n.n ≡ range_length (addresses s) = omega (arith, c.loop-n.auto.n-end, c.loop-n-test.false, c.length-count.ensures, ap (λ (r : Range). range_length r) c.memory_addresses.ensures) in
    c.loop-n.invariant ∙ ap (columns_from s c.args.places.now 0) end

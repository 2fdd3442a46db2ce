-- Whether some bit of a row of words is 1.
use Rattle.std.proofs.Common.{◌≡◌, ◌≢◌, ℕ, zero, suc, ◌+◌, ◌*◌, ◌/◌, ◌%◌, ◌^◌, ◌<◌, Bool, true, false, not, ◌⊎◌, ◌||◌, ◌==◌, List, get_or, refl, sym, ap, ap₂, ◌∙◌, arith, inl, inr, below_more}
use Rattle.std.proofs.lemmas.Bool.{cases_eq, true≢false, eqb-true}
use Rattle.std.proofs.lemmas.Nat.Bits.{bit_at-suc, bit_at-zero, bit_at_lowest}
use Rattle.std.proofs.Math.Nat.{pow-suc}
use Rattle.std.specs.Prelude.{bit_or}
use Rattle.std.specs.Int.{bit_at}
use Rattle.vs_plane.specs.Bits.{bit_of_words}
use Rattle.vs_plane.proofs.WordBits.{bit_is, or_is}

-- a word that isn't 0 has a bit
some_bit : (k v : ℕ) → v < 2 ^ k → v ≢ 0 → (i : ℕ) × (i < k) × (bit_at v i ≡ 1)
some_bit zero v h ne = absurd (ne (omega arith))
some_bit (suc k) v h ne = elim (cases_eq (v % 2) 1) [
  | inl odd ↦ (0, omega arith, bit_at_lowest v ∙ odd)
  | inr even ↦
      let half : v / 2 < 2 ^ k = omega (arith, pow-suc 2 k) in
      let rest : v / 2 ≢ 0 = omega arith in
      let r = some_bit k (v / 2) half rest in
      (suc r.0, omega (arith, r.1), bit_at-suc v r.0 ∙ r.2)
]

-- the bits of the first words together: each is that of some word, and one that is 0 is 0 in each word
pub record AreWordsOr (words : List ℕ) (count bits : ℕ) : Type 0 where
  pub some : (i : ℕ) → i < 64 → bit_is bits i ≡ true → (k : ℕ) × (k < count) × (bit_is (get_or words k 0) i ≡ true)
  pub none : (i : ℕ) → bit_is bits i ≡ false → (k : ℕ) → k < count → bit_is (get_or words k 0) i ≡ false

-- an `or` by cases
or_true : (a b : Bool) → (a || b) ≡ true → (a ≡ true) ⊎ (b ≡ true)
or_true true b h = inl refl
or_true false b h = inr h

or_false : (a b : Bool) → (a || b) ≡ false → (a ≡ false) × (b ≡ false)
or_false false b h = (refl, h)
or_false true b h = absurd (true≢false h)

not_false : (b : Bool) → not b ≡ false → b ≡ true
not_false true h = refl
not_false false h = absurd (true≢false h)

pub words_more : (words : List ℕ) (count bits : ℕ) → AreWordsOr words count bits → AreWordsOr words (count + 1) (bit_or bits (get_or words count 0))
words_more words count bits so_far = record {
  some = λ i h e. elim (or_true (bit_is bits i) (bit_is (get_or words count 0) i) (sym (or_is bits (get_or words count 0) i) ∙ e)) [
    | inl before ↦ let r = so_far.some i h before in (r.0, omega (arith, r.1), r.2)
    | inr here ↦ (count, omega arith, here)
  ];
  none = λ i e.
      let parts = or_false (bit_is bits i) (bit_is (get_or words count 0) i) (sym (or_is bits (get_or words count 0) i) ∙ e) in
      λ k h. below_more (λ n. bit_is (get_or words n 0) i ≡ false) count (λ n l. so_far.none i parts.0 n l) parts.1 k h;
}

-- what the bits together say of the lanes of the words
pub some_lane : (words : List ℕ) (whole bits : ℕ) → bits < 2 ^ 64 → AreWordsOr words whole bits → not (bits == 0) ≡ true
    → (i : ℕ) × (i < 64 * whole) × (bit_of_words words i ≡ true)
some_lane words whole bits fits h e =
    let ne : bits ≢ 0 = λ z. true≢false (sym e ∙ ap (λ (n : ℕ). not (n == 0)) z) in
    let b = some_bit 64 bits fits ne in
    let w = h.some b.0 b.1 (ap (λ n. n == 1) b.2) in
    let place : (64 * w.0 + b.0) / 64 ≡ w.0 = omega (arith, b.1) in
    let low : (64 * w.0 + b.0) % 64 ≡ b.0 = omega (arith, b.1) in
    (64 * w.0 + b.0, omega (arith, w.1, b.1), ap₂ (λ (m j : ℕ). bit_is (get_or words m 0) j) place low ∙ w.2)

pub no_lane : (words : List ℕ) (whole bits : ℕ) → AreWordsOr words whole bits → not (bits == 0) ≡ false
    → (i : ℕ) → i < 64 * whole → bit_of_words words i ≡ false
no_lane words whole bits h e i l =
    let zero_bits : bits ≡ 0 = eqb-true bits 0 (not_false (bits == 0) e) in
    h.none (i % 64) (ap (λ (n : ℕ). bit_is n (i % 64)) zero_bits ∙ ap (λ n. n == 1) (bit_at-zero (i % 64))) (i / 64) (omega arith)

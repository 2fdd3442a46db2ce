-- The lines of lanes, one after the other.
use Rattle.std.proofs.Common.{◌≡◌, ℕ, zero, suc, ◌+◌, ◌<◌, List, [], ◌∷◌, ◌++◌, length, take, drop, Option, refl, sym, ap, ◌∙◌, arith, append_assoc, append-nil}
use Rattle.std.proofs.Math.Seq.{take-length}
use Rattle.vs_misses.specs.Missed.{Found}
use Rattle.vs_misses.specs.Watch.{found_at}
use Rattle.vs_top.specs.Verdicts.{miss_text, texts_from, misses_text}

-- the lines before those of a lane, its own, and those behind it
split_from : (first k : ℕ) (found : List (Option Found)) → k < length found
    → texts_from first found ≡ texts_from first (take k found) ++ (miss_text (first + k) (found_at found k) ++ texts_from (first + k + 1) (drop (suc k) found))
split_from first k [] h = absurd (omega (arith, h))
split_from first zero (f ∷ found) h = rw (zero_more first) refl
  where
    zero_more : (n : ℕ) → n + 0 ≡ n
    zero_more n = omega arith
split_from first (suc k) (f ∷ found) h =
    let later = split_from (first + 1) k found (omega (arith, h)) in
    let place : first + 1 + k ≡ first + suc k = omega arith in
    ap (λ (t : List ℕ). miss_text first f ++ t) (later ∙ ap (λ (n : ℕ). texts_from (first + 1) (take k found) ++ (miss_text n (found_at found k) ++ texts_from (n + 1) (drop (suc k) found))) place)
    ∙ sym (append_assoc (miss_text first f) (texts_from (first + 1) (take k found)) _)

pub split_misses : (k : ℕ) (found : List (Option Found)) → k < length found
    → misses_text found ≡ misses_text (take k found) ++ (miss_text k (found_at found k) ++ texts_from (k + 1) (drop (suc k) found))
split_misses k found h = split_from 0 k found h ∙ ap (λ (n : ℕ). misses_text (take k found) ++ (miss_text n (found_at found k) ++ texts_from (n + 1) (drop (suc k) found))) (zero_add k)
  where
    zero_add : (n : ℕ) → 0 + n ≡ n
    zero_add n = omega arith

-- the lines of one more lane
next_from : (first k : ℕ) (found : List (Option Found)) → k < length found
    → texts_from first (take (suc k) found) ≡ texts_from first (take k found) ++ miss_text (first + k) (found_at found k)
next_from first k [] h = absurd (omega (arith, h))
next_from first zero (f ∷ found) h = rw (zero_more first) (append-nil (miss_text first f))
  where
    zero_more : (n : ℕ) → n + 0 ≡ n
    zero_more n = omega arith
next_from first (suc k) (f ∷ found) h =
    let later = next_from (first + 1) k found (omega (arith, h)) in
    let place : first + 1 + k ≡ first + suc k = omega arith in
    ap (λ (t : List ℕ). miss_text first f ++ t) (later ∙ ap (λ (n : ℕ). texts_from (first + 1) (take k found) ++ miss_text n (found_at found k)) place)
    ∙ sym (append_assoc (miss_text first f) (texts_from (first + 1) (take k found)) (miss_text (first + suc k) (found_at found k)))

pub next_misses : (k : ℕ) (found : List (Option Found)) → k < length found
    → misses_text (take (k + 1) found) ≡ misses_text (take k found) ++ miss_text k (found_at found k)
next_misses k found h =
    let more : k + 1 ≡ suc k = omega arith in
    let none : 0 + k ≡ k = omega arith in
    ap (λ (n : ℕ). misses_text (take n found)) more ∙ next_from 0 k found h ∙ ap (λ (n : ℕ). misses_text (take k found) ++ miss_text n (found_at found k)) none

-- the lines of all lanes
pub all_misses : (n : ℕ) (found : List (Option Found)) → n ≡ length found → misses_text (take n found) ≡ misses_text found
all_misses n found e = rw e (ap misses_text (take-length found))

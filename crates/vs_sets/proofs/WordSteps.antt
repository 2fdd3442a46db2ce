-- Words of memories, step by step.
use Rattle.std.proofs.Common.{◌≡◌, ℕ, zero, suc, ◌+◌, ◌-◌, ◌*◌, ◌<◌, ◌≤◌, List, [], ◌∷◌, length, map, take, drop, get_or, replicate, Option, Some, None, refl, sym, ap, ◌∙◌, arith}
use Rattle.std.proofs.lemmas.List.{length-take, length-drop}
use Rattle.std.proofs.Math.Nat.{mul-le-mul_right}
use Rattle.std.proofs.Math.Seq.{drop-nil}
use Rattle.vs_four.specs.declared.Bit4.TheVariants.{X}
use Rattle.vs_four.specs.Logic.{map2}
use Rattle.vs_four.specs.Selects.{at_place}
use Rattle.vs_design.specs.LiftedBodies.{put_each}
use Rattle.vs_design.specs.Lifted.{Family}
use Rattle.vs_design.specs.Sets.{Set4, only, none, union, all_words}
use Rattle.vs_design.specs.Values.{count_from, spread}
use Rattle.vs_sets.specs.Tables.{bits_from}

-- a word ends within its memory
pub word_ends : (count len n : ℕ) → n < count → n * len + len ≤ count * len
word_ends count len n h = let m : suc n * len ≤ count * len = mul-le-mul_right len h in omega (arith, m)

-- ---- one word

drop_again : {A : Type 0} (k m n : ℕ) (xs : List A) → n ≡ k + m → drop m (drop k xs) ≡ drop n xs
drop_again zero m n xs e = ap (λ j. drop j xs) (omega arith)
drop_again (suc k) m n [] e = ap (drop m) (drop-nil (suc k)) ∙ drop-nil m ∙ sym (drop-nil n)
drop_again (suc k) m zero (x ∷ xs) e = absurd (omega arith)
drop_again (suc k) m (suc n) (x ∷ xs) e = drop_again k m n xs (omega arith)

drop_one : (ss : List Set4) (m : ℕ) → m < length ss → drop m ss ≡ get_or ss m (only X) ∷ drop (suc m) ss
drop_one [] m h = absurd (omega arith)
drop_one (s ∷ ss) zero h = refl
drop_one (s ∷ ss) (suc m) h = drop_one ss m (omega arith)

word_take : (ss : List Set4) (m n : ℕ) → m + n ≤ length ss → map (at_place (only X) ss) (map Some (count_from m n)) ≡ take n (drop m ss)
word_take ss m zero h = refl
word_take ss m (suc n) h = ap {B = List Set4} (λ xs. get_or ss m (only X) ∷ xs) (word_take ss (suc m) n (omega arith)) ∙ sym (ap {B = List Set4} (take (suc n)) (drop_one ss m (omega arith)))

pub word_found : (ss list : List Set4) (count len n : ℕ) (place : Option ℕ) → length ss ≡ count * len → n < count → place ≡ Some n → list ≡ take ((n * len + len) - n * len) (drop (n * len) ss)
    → list ≡ map (at_place (only X) ss) (spread len place)
word_found ss list count len n place long inside e is =
    let fit = word_ends count len n inside in
    let size : (n * len + len) - n * len ≡ len = omega arith in
    is ∙ ap (λ k. take k (drop (n * len) ss)) size ∙ sym (word_take ss (n * len) len (omega (arith, fit, long))) ∙ sym (ap (λ p. map (at_place (only X) ss) (spread len p)) e)

nones : (n : ℕ) (ss : List Set4) → map (at_place (only X) ss) (replicate n None) ≡ replicate n (only X)
nones zero ss = refl
nones (suc n) ss = ap {B = List Set4} (λ xs. only X ∷ xs) (nones n ss)

pub word_missing : (ss list : List Set4) (len : ℕ) (place : Option ℕ) → place ≡ None → list ≡ replicate len (only X) → list ≡ map (at_place (only X) ss) (spread len place)
word_missing ss list len place e is = is ∙ sym (nones len ss) ∙ sym (ap (λ p. map (at_place (only X) ss) (spread len p)) e)

-- ---- all words

pub slice_long : (ss word : List Set4) (count len n : ℕ) → length ss ≡ count * len → n < count → word ≡ take ((n * len + len) - n * len) (drop (n * len) ss) → length word ≡ len
slice_long ss word count len n long inside is =
    let fit = word_ends count len n inside in
    let t = length-take ((n * len + len) - n * len) (drop (n * len) ss) in
    let d = length-drop (n * len) ss in
    omega (arith, fit, long, t, d, ap length is)

pub word_more : (ss list word out : List Set4) (count len n : ℕ) → length ss ≡ count * len → 0 < n → n ≤ count → list ≡ all_words len (count - n) (drop (n * len) ss)
    → word ≡ take (((n - 1) * len + len) - (n - 1) * len) (drop ((n - 1) * len) ss) → out ≡ map2 union word list → out ≡ all_words len (count - (n - 1)) (drop ((n - 1) * len) ss)
word_more ss list word out count len zero long some within so_far is made = absurd (omega arith)
word_more ss list word out count len (suc n) long some within so_far is made =
    let one : suc n - 1 ≡ n = omega arith in
    let left : count - (suc n - 1) ≡ suc (count - suc n) = omega arith in
    let size : ((suc n - 1) * len + len) - (suc n - 1) * len ≡ len = omega arith in
    let next : drop (suc n * len) ss ≡ drop len (drop ((suc n - 1) * len) ss) = sym (drop_again ((suc n - 1) * len) len (suc n * len) ss (ap (λ k. suc k * len) (sym one) ∙ omega arith)) in
    made
    ∙ ap (λ w. map2 union w list) (is ∙ ap (λ k. take k (drop ((suc n - 1) * len) ss)) size)
    ∙ ap (λ r. map2 union (take len (drop ((suc n - 1) * len) ss)) r) (so_far ∙ ap (all_words len (count - suc n)) next)
    ∙ ap (λ k. all_words len k (drop ((suc n - 1) * len) ss)) (sym left)

pub words_done : (ss list : List Set4) (count len n : ℕ) → n ≤ 0 → list ≡ all_words len (count - n) (drop (n * len) ss) → list ≡ all_words len count ss
words_done ss list count len zero h is =
    let all : count - 0 ≡ count = omega arith in
    let from : zero * len ≡ 0 = omega arith in
    is ∙ ap (λ k. all_words len k (drop (zero * len) ss)) all ∙ ap (λ k. all_words len count (drop k ss)) from
words_done ss list count len (suc n) h is = absurd (omega arith)

pub words_begun : (ss list : List Set4) (count len n : ℕ) → n ≡ count → list ≡ replicate len none → list ≡ all_words len (count - n) (drop (n * len) ss)
words_begun ss list count len n e is = let left : count - n ≡ 0 = omega arith in is ∙ ap (λ k. all_words len k (drop (n * len) ss)) (sym left)

-- ---- a word that is written

pub run_places : (first m n : ℕ) → bits_from first (map Some (count_from m n)) ≡ map Some (count_from (first + m) n)
run_places first m zero = refl
run_places first m (suc n) = ap {B = List (Option ℕ)} (λ ps. Some (first + m) ∷ ps) (run_places first (suc m) n ∙ ap (λ k. map Some (count_from k n)) (omega arith))

pub word_put : (first len n : ℕ) (place : Option ℕ) (sets : List Set4) (f g : Family) → place ≡ Some n → g ≡ put_each (map Some (count_from (first + n * len) len)) sets f → g ≡ put_each (bits_from first (spread len place)) sets f
word_put first len n place sets f g e is = is ∙ ap (λ ps. put_each ps sets f) (sym (run_places first (n * len) len)) ∙ sym (ap (λ p. put_each (bits_from first (spread len p)) sets f) e)

no_puts : (first n : ℕ) (sets : List Set4) (f : Family) → put_each (bits_from first (replicate n None)) sets f ≡ f
no_puts first zero sets f = refl
no_puts first (suc n) [] f = refl
no_puts first (suc n) (s ∷ sets) f = no_puts first n sets f

pub word_unput : (first len : ℕ) (place : Option ℕ) (sets : List Set4) (f g : Family) → place ≡ None → g ≡ f → g ≡ put_each (bits_from first (spread len place)) sets f
word_unput first len place sets f g e is = is ∙ sym (no_puts first len sets f) ∙ sym (ap (λ p. put_each (bits_from first (spread len p)) sets f) e)

-- The places of a memory's words.
use Rattle.std.proofs.Common.{◌≡◌, ℕ, zero, suc, ◌+◌, ◌*◌, ◌≤◌, ◌<◌, Bool, true, false, ◌||◌, ◌==◌, nat_lt, if◌then◌else◌, refl, ◌∙◌, subst, map, length, replicate, Option, Some, None, arith, eqb-true, eq-eqb, ℤ, pos, negsuc}
use Rattle.std.specs.Prelude.{option_map}
use Rattle.std.proofs.lemmas.List.{length-map}
use Rattle.std.proofs.Math.Nat.{mul-le-mul_right}
use Rattle.vs_four.specs.declared.Range.{Range}
use Rattle.vs_four.specs.Logic.{BitList, all_known}
use Rattle.vs_four.specs.Numbers.{integer}
use Rattle.vs_four.specs.Selects.{range_length, below, place_of}
use Rattle.vs_design.specs.Expressions.{Signal, words_length, signal_length, word_length, range_or_one, range_or_zero, addresses, Expression, sign, is_constant}
use Rattle.vs_design.specs.Values.{count_from, bits_of_signal, address_place, spread, word_places, constant_value}
use Rattle.vs_design.specs.Bodies.{bits_at}
use Rattle.vs_design.specs.Footprints.{contains, somes, addressed_bits}
use Rattle.vs_design.proofs.Lists.{by_test, or_left, or_right}
use Rattle.vs_design.proofs.Lengths.{length_word}

-- ---- lengths

-- a signal has as many bits as its words have
pub words_are : (s : Signal) → signal_length s ≡ range_length (addresses s) * word_length s
words_are s = go s.words (range_or_one s.range)
  where
    go : (o : Option Range) (k : ℕ) → words_length o k ≡ range_length (range_or_zero o) * k
    go None k = omega arith
    go (Some r) k = refl

pub long_word : (signal : Signal) (g : Bool) (index : BitList) → length (bits_at signal (word_places signal g index)) ≡ word_length signal
long_word signal g index = length-map (word_places signal g index) (λ p. option_map (λ n. signal.first + n) p) ∙ length_word signal g index

-- ---- a word is one of its memory

below_less : (len : ℕ) (z : ℤ) (n : ℕ) → below len z ≡ Some n → n < len
below_less len (negsuc m) n h = cc
below_less len (pos m) n h = go (nat_lt m len) refl h
  where
    same : (a b : ℕ) → Some a ≡ Some b → a ≡ b
    same a b e = cc

    is_less : nat_lt m len ≡ true → m < len
    is_less t = grind (arith)

    go : (c : Bool) → nat_lt m len ≡ c → (if c then Some m else None) ≡ Some n → n < len
    go true t e = subst (λ x. x < len) (same m n e) (is_less t)
    go false t e = cc

pub address_less : (signal : Signal) (g : Bool) (index : BitList) (n : ℕ) → address_place signal g index ≡ Some n → n < range_length (addresses signal)
address_less signal g index n h = go (all_known index) h
  where
    go : (c : Bool) → (if c then place_of (addresses signal) (integer g index) else None) ≡ Some n → n < range_length (addresses signal)
    go true e = below_less (range_length (addresses signal)) _ n e
    go false e = cc

-- the word at this place ends within these bits
pub word_ends : (d k n : ℕ) → n < d → n * k + k ≤ d * k
word_ends d k n h = let m : suc n * k ≤ d * k = mul-le-mul_right k h in omega (arith, m)

pub word_fits : (signal : Signal) (n : ℕ) → n < range_length (addresses signal) → n * word_length signal + word_length signal ≤ signal_length signal
word_fits signal n h =
    let e = words_are signal in
    let m = word_ends (range_length (addresses signal)) (word_length signal) n h in
    omega (arith, m, e)

-- ---- a word's bits are of its memory

pub in_count : (len f n k : ℕ) → k ≡ f + n → n < len → contains (count_from f len) k ≡ true
in_count zero f n k e h = absurd (omega arith)
in_count (suc len) f zero k e h = or_left (k == f) (contains (count_from (suc f) len) k) (eq-eqb k f (omega arith))
in_count (suc len) f (suc n) k e h = or_right (k == f) (contains (count_from (suc f) len) k) (in_count len (suc f) n k (omega arith) (omega arith))

pub no_places : (signal : Signal) (n b : ℕ) → contains (somes (bits_at signal (replicate n None))) b ≡ false
no_places signal zero b = refl
no_places signal (suc n) b = no_places signal n b

count_bits : (signal : Signal) (m n b : ℕ) → m + n ≤ signal_length signal → contains (somes (bits_at signal (map Some (count_from m n)))) b ≡ true → contains (bits_of_signal signal) b ≡ true
count_bits signal m zero b l h = cc
count_bits signal m (suc n) b l h =
    by_test (b == (signal.first + m))
    (λ q. in_count (signal_length signal) signal.first m b (eqb-true b (signal.first + m) q) (omega arith))
    (λ q. count_bits signal (suc m) n b (omega arith) (subst (λ c. (c || contains (somes (bits_at signal (map Some (count_from (suc m) n)))) b) ≡ true) q h))

pub word_within : (signal : Signal) (g : Bool) (index : BitList) (b : ℕ) → contains (somes (bits_at signal (word_places signal g index))) b ≡ true → contains (bits_of_signal signal) b ≡ true
word_within signal g index b h = go (address_place signal g index) refl h
  where
    never : (c : Bool) → c ≡ true → c ≡ false → ⊥
    never c p q = cc

    go : (p : Option ℕ) → address_place signal g index ≡ p → contains (somes (bits_at signal (spread (word_length signal) p))) b ≡ true → contains (bits_of_signal signal) b ≡ true
    go None e h = absurd (never (contains (somes (bits_at signal (replicate (word_length signal) None))) b) h (no_places signal (word_length signal) b))
    go (Some n) e h = count_bits signal (n * word_length signal) (word_length signal) b (word_fits signal n (address_less signal g index n e)) h

-- ---- by a constant address, and by any other

pub addressed_constant : (signal : Signal) (index : Expression) → is_constant index ≡ true → addressed_bits signal index ≡ somes (bits_at signal (word_places signal (sign index) (constant_value index)))
addressed_constant signal index e = rw e refl

pub addressed_variable : (signal : Signal) (index : Expression) → is_constant index ≡ false → addressed_bits signal index ≡ bits_of_signal signal
addressed_variable signal index e = rw e refl

pub addressed_within : (signal : Signal) (index : Expression) (b : ℕ) → contains (addressed_bits signal index) b ≡ true → contains (bits_of_signal signal) b ≡ true
addressed_within signal index b h =
    by_test (is_constant index)
    (λ e. word_within signal (sign index) (constant_value index) b (subst (λ xs. contains xs b ≡ true) (addressed_constant signal index e) h))
    (λ e. subst (λ xs. contains xs b ≡ true) (addressed_variable signal index e) h)

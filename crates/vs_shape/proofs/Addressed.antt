-- The bits of a word by its address.
use Rattle.std.proofs.Common.{◌≡◌, ℕ, zero, suc, ◌+◌, ◌-◌, ◌*◌, ◌≤◌, ◌<◌, ◌^◌, Bool, true, false, if◌then◌else◌, List, [], ◌∷◌, ◌++◌, map, length, refl, sym, ap, ◌∙◌, arith, append-nil}
use Rattle.std.specs.Prelude.{nat_le, Option, Some, None, not, slice_get, replicate}
use Rattle.std.proofs.Math.Nat.{mul-le-mul_right}
use Rattle.vs_four.specs.declared.Range.{Range}
use Rattle.vs_four.specs.Selects.{range_length, place_of}
use Rattle.vs_four.specs.Logic.{BitList, all_known}
use Rattle.vs_four.specs.Numbers.{integer}
use Rattle.vs_design.specs.Expressions as E
use Rattle.vs_design.specs.Values.{count_from, bits_of_signal, address_place, spread, word_places, constant_value}
use Rattle.vs_design.specs.Footprints.{somes}
use Rattle.vs_flat.specs.declared.processes.Signal.{Signal as FlatSignal}
use Rattle.vs_flat.specs.Arena.{Arena, signal_length}
use Rattle.vs_flat.specs.Lawful.{IsLawful}
use Rattle.vs_flat.specs.Laws.{EachSignal, HasCounts}
use Rattle.vs_shape.specs.Gathered.{bits_from, gathered, gathered_word}
use Rattle.vs_shape.proofs.SignalBits.{signal_room}

-- ---- the bits of a word at a place

somes_run : (first m n : ℕ) → somes (bits_from first (map Some (count_from m n))) ≡ count_from (first + m) n
somes_run first m zero = refl
somes_run first m (suc n) = ap (λ xs. (first + m) ∷ xs) (somes_run first (suc m) n ∙ ap (λ k. count_from k n) (omega arith))

somes_none : (first n : ℕ) → somes (bits_from first (replicate n None)) ≡ []
somes_none first zero = refl
somes_none first (suc n) = somes_none first n

pub word_run : (first len k : ℕ) (place : Option ℕ) → place ≡ Some k → somes (bits_from first (spread len place)) ≡ count_from (first + k * len) len
word_run first len k place e = ap (λ p. somes (bits_from first (spread len p))) e ∙ somes_run first (k * len) len

pub no_word : (xs : List ℕ) (first len : ℕ) (place : Option ℕ) → place ≡ None → xs ≡ xs ++ somes (bits_from first (spread len place))
no_word xs first len place e = sym (append-nil xs) ∙ ap (λ zs. xs ++ zs) (sym (ap (λ p. somes (bits_from first (spread len p))) e ∙ somes_none first len))

-- ---- the word of a memory of the design

-- a memory is within the bits of the design
module _ (each : EachSignal) (counts : (a : Arena) → HasCounts a) (a : Arena) (lawful : IsLawful a) (k : ℕ) (s : FlatSignal) (at : slice_get a.signals k ≡ Some s) (there : k < length a.signals) where
  length_is : (words : Option Range) (len : ℕ) → E.words_length words len ≡ range_length (E.range_or_zero words) * len
  length_is None len = omega arith
  length_is (Some r) len = refl

  pub memory_room : s.first_bit + range_length (E.range_or_zero s.words) * E.range_or_one s.range ≤ 1048576
  memory_room =
      let room : s.first_bit + signal_length s ≤ 1048576 = signal_room each counts a lawful k s at there in
      omega (arith, room, length_is s.words (E.range_or_one s.range))

  some_words : (r : Range) → 1 ≤ range_length r
  some_words r = some (nat_le r.right r.left) (r.left - r.right) (r.right - r.left)
    where
      some : (c : Bool) (m n : ℕ) → 1 ≤ (if c then suc m else suc n)
      some true m n = omega arith
      some false m n = omega arith

  pub word_short : E.range_or_one s.range < 2 ^ 32
  word_short =
      let m : 1 * E.range_or_one s.range ≤ range_length (E.range_or_zero s.words) * E.range_or_one s.range = mul-le-mul_right (E.range_or_one s.range) (some_words (E.range_or_zero s.words)) in
      omega (arith, m, memory_room)

  -- a word that is there ends within its memory
  pub word_room : (addresses : Range) (len n : ℕ) → addresses ≡ E.range_or_zero s.words → len ≡ E.range_or_one s.range → n < range_length addresses → s.first_bit + (n * len + len) < 2 ^ 32
  word_room addresses len n from long below =
      let room : s.first_bit + range_length addresses * len ≤ 1048576 = rw (from, long) memory_room in
      let m : suc n * len ≤ range_length addresses * len = mul-le-mul_right len below in
      omega (arith, m, room)

-- a word by a constant address
pub addressed_found : (w constant : Bool) (signal : E.Signal) (index : E.Expression) (first len : ℕ) (addresses : Range) (signed : Bool) (value : BitList) (place : Option ℕ) → w ≡ false → not constant ≡ false → constant ≡ E.is_constant index
    → first ≡ signal.first → len ≡ E.word_length signal → addresses ≡ E.addresses signal → signed ≡ E.sign index → value ≡ constant_value index
    → place ≡ (if all_known value then place_of addresses (integer signed value) else None) → gathered_word w signal index ≡ somes (bits_from first (spread len place))
addressed_found w constant signal index first len addresses signed value place narrow known is_known begins long from sign_is value_is place_is =
    ap (λ b. gathered_word b signal index) narrow
    ∙ picked (E.is_constant index) (sym is_known ∙ yes constant known) (somes (bits_from signal.first (word_places signal (E.sign index) (constant_value index)))) (bits_of_signal signal)
    ∙ ap (λ f. somes (bits_from f (word_places signal (E.sign index) (constant_value index)))) (sym begins)
    ∙ ap (λ k. somes (bits_from first (spread k (address_place signal (E.sign index) (constant_value index))))) (sym long)
    ∙ ap (λ p. somes (bits_from first (spread len p))) (sym found)
  where
    found : place ≡ address_place signal (E.sign index) (constant_value index)
    found =
        place_is
        ∙ ap (λ v. if all_known v then place_of addresses (integer signed v) else None) value_is
        ∙ ap (λ g. if all_known (constant_value index) then place_of addresses (integer g (constant_value index)) else None) sign_is
        ∙ ap (λ r. if all_known (constant_value index) then place_of r (integer (E.sign index) (constant_value index)) else None) from

    yes : (b : Bool) → not b ≡ false → b ≡ true
    yes true h = refl
    yes false h = cc

    picked : (b : Bool) → b ≡ true → (xs ys : List ℕ) → (if b then xs else ys) ≡ xs
    picked true h xs ys = refl
    picked false h xs ys = cc

-- what is gathered of a word is gathered of its bits and then of its address
pub word_gathered : (w : Bool) (s : E.Signal) (i : E.Expression) → gathered w (E.Word s i) ≡ gathered_word w s i ++ gathered w i
word_gathered true s i = refl
word_gathered false s i = refl

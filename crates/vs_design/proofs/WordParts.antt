-- Parts of words: of a word's places those that a part takes.
use Rattle.std.proofs.Common.{◌≡◌, ℕ, zero, suc, ◌+◌, ◌*◌, ◌<◌, Bool, true, false, List, [], ◌∷◌, ◌||◌, ◌&&◌, ◌==◌, nat_lt, refl, sym, ap, ◌∙◌, subst, map, length, replicate, get_or, Option, Some, None, arith, ℤ, pos, negsuc, ◌+ℤ◌}
use Rattle.std.specs.Prelude.{option_map}
use Rattle.std.proofs.lemmas.List.{length-map}
use Rattle.vs_four.specs.declared.Bit4.TheVariants.{X}
use Rattle.vs_four.specs.Logic.{BitList, all_known}
use Rattle.vs_four.specs.Numbers.{integer}
use Rattle.vs_four.specs.Selects.{Part, range_length, below, at_place, places, select}
use Rattle.vs_design.specs.Expressions.{Signal, word_length, Expression, sign, is_constant}
use Rattle.vs_design.specs.Values.{count_from, bits_of_signal, spread, word_places, word_part_places, select_word, constant_value}
use Rattle.vs_design.specs.Bodies.{bits_at}
use Rattle.vs_design.specs.Footprints.{contains, somes, addressed_bits, word_part_bits}
use Rattle.vs_design.proofs.Lists.{by_test, or_left, or_right}
use Rattle.vs_design.specs.TreeLaws.{PartsOfWord, PartsOfNone}
use Rattle.vs_design.proofs.Places.{first_place, places_from, places_are}
use Rattle.vs_design.proofs.Lengths.{length_places, length_word}
use Rattle.vs_design.proofs.Words.{word_within, addressed_within}

-- ---- places of places

at_twice : {A : Type 0} (none : A) (xs : List A) (ps : List (Option ℕ)) (q : Option ℕ) → at_place none (map (at_place none xs) ps) q ≡ at_place none xs (at_place None ps q)
at_twice none xs ps None = refl
at_twice none xs [] (Some n) = refl
at_twice none xs (p ∷ ps) (Some zero) = refl
at_twice none xs (p ∷ ps) (Some (suc n)) = at_twice none xs ps (Some n)

-- what stands at some of the elements at these places stands at some of these places
pub twice : {A : Type 0} (none : A) (xs : List A) (ps qs : List (Option ℕ)) → map (at_place none (map (at_place none xs) ps)) qs ≡ map (at_place none xs) (map (at_place None ps) qs)
twice none xs ps [] = refl
twice {A} none xs ps (q ∷ qs) =
    ap {B = List A} (λ x. x ∷ map (at_place none (map (at_place none xs) ps)) qs) (at_twice none xs ps q)
    ∙ ap {B = List A} (λ r. at_place none xs (at_place None ps q) ∷ r) (twice none xs ps qs)

one_of : (signal : Signal) (ps : List (Option ℕ)) (n m b : ℕ) → get_or ps n None ≡ Some m → (b == (signal.first + m)) ≡ true → contains (somes (bits_at signal ps)) b ≡ true
one_of signal [] n m b e q = cc
one_of signal (p ∷ ps) zero m b e q = subst (λ (o : Option ℕ). contains (somes (bits_at signal (o ∷ ps))) b ≡ true) (sym e) (or_left (b == (signal.first + m)) (contains (somes (bits_at signal ps)) b) q)
one_of signal (None ∷ ps) (suc n) m b e q = one_of signal ps n m b e q
one_of signal (Some k ∷ ps) (suc n) m b e q = or_right (b == (signal.first + k)) (contains (somes (bits_at signal ps)) b) (one_of signal ps n m b e q)

-- a bit at some of these places is at these places
pub somes_within : (signal : Signal) (ps qs : List (Option ℕ)) (b : ℕ) → contains (somes (bits_at signal (map (at_place None ps) qs))) b ≡ true → contains (somes (bits_at signal ps)) b ≡ true
somes_within signal ps [] b h = cc
somes_within signal ps (None ∷ qs) b h = somes_within signal ps qs b h
somes_within signal ps (Some n ∷ qs) b h = go (get_or ps n None) refl h (λ k. somes_within signal ps qs b k)
  where
    go : (p : Option ℕ) → get_or ps n None ≡ p → contains (somes (bits_at signal (p ∷ map (at_place None ps) qs))) b ≡ true → (contains (somes (bits_at signal (map (at_place None ps) qs))) b ≡ true → contains (somes (bits_at signal ps)) b ≡ true) → contains (somes (bits_at signal ps)) b ≡ true
    go None e h r = r h
    go (Some m) e h r =
        by_test (b == (signal.first + m))
        (λ q. one_of signal ps n m b e q)
        (λ q. r (subst (λ c. (c || contains (somes (bits_at signal (map (at_place None ps) qs))) b) ≡ true) q h))

-- ---- a part of a word

-- a select of a word takes the bits at its places
pub part_of_word : (signal : Signal) (g : Bool) (us : BitList) (part : Part) (j : Bool) (vs memory : BitList) → select part j (select_word signal g memory us) vs ≡ map (at_place X memory) (word_part_places signal g us part j vs)
part_of_word signal g us part j vs memory = twice X memory (word_places signal g us) (places part j vs)

pub length_word_part : (signal : Signal) (g : Bool) (us : BitList) (part : Part) (j : Bool) (vs : BitList) → length (word_part_places signal g us part j vs) ≡ part.width
length_word_part signal g us part j vs = length-map (places part j vs) (at_place None (word_places signal g us)) ∙ length_places part j vs

pub long_word_part : (signal : Signal) (g : Bool) (us : BitList) (part : Part) (j : Bool) (vs : BitList) → length (bits_at signal (word_part_places signal g us part j vs)) ≡ part.width
long_word_part signal g us part j vs = length-map (word_part_places signal g us part j vs) (λ p. option_map (λ n. signal.first + n) p) ∙ length_word_part signal g us part j vs

pub length_select_word : (signal : Signal) (g : Bool) (us memory : BitList) → length (select_word signal g memory us) ≡ word_length signal
length_select_word signal g us memory = length-map (word_places signal g us) (at_place X memory) ∙ length_word signal g us

-- its bits are the word's
pub part_in_word : (signal : Signal) (g : Bool) (us : BitList) (part : Part) (j : Bool) (vs : BitList) (b : ℕ) → contains (somes (bits_at signal (word_part_places signal g us part j vs))) b ≡ true → contains (somes (bits_at signal (word_places signal g us))) b ≡ true
part_in_word signal g us part j vs b h = somes_within signal (word_places signal g us) (places part j vs) b h

-- ---- by constants, and by others

pub part_constant : (signal : Signal) (address : Expression) (part : Part) (index : Expression) → (is_constant address && is_constant index) ≡ true
    → word_part_bits signal address part index ≡ somes (bits_at signal (word_part_places signal (sign address) (constant_value address) part (sign index) (constant_value index)))
part_constant signal address part index e = rw e refl

pub part_variable : (signal : Signal) (address : Expression) (part : Part) (index : Expression) → (is_constant address && is_constant index) ≡ false → word_part_bits signal address part index ≡ addressed_bits signal address
part_variable signal address part index e = rw e refl

-- they are the memory's
pub part_bits_within : (signal : Signal) (address : Expression) (part : Part) (index : Expression) (b : ℕ) → contains (word_part_bits signal address part index) b ≡ true → contains (bits_of_signal signal) b ≡ true
part_bits_within signal address part index b h =
    by_test (is_constant address && is_constant index)
    (λ e. word_within signal (sign address) (constant_value address) b
    (part_in_word signal (sign address) (constant_value address) part (sign index) (constant_value index) b (subst (λ xs. contains xs b ≡ true) (part_constant signal address part index e) h)))
    (λ e. addressed_within signal address b (subst (λ xs. contains xs b ≡ true) (part_variable signal address part index e) h))

-- ---- by the place of the word

none_at : (k : ℕ) (q : Option ℕ) → at_place {A = Option ℕ} None (replicate {A = Option ℕ} k None) q ≡ None
none_at k None = refl
none_at zero (Some m) = refl
none_at (suc k) (Some zero) = refl
none_at (suc k) (Some (suc m)) = none_at k (Some m)

count_at : (f len m : ℕ) → m < len → get_or (map Some (count_from f len)) m None ≡ Some (f + m)
count_at f zero m h = absurd (omega arith)
count_at f (suc len) zero h = ap Some (omega arith)
count_at f (suc len) (suc m) h = count_at (suc f) len m (omega arith) ∙ ap Some (omega arith)

module _ (signal : Signal) where
  abbrev in_signal : Option ℕ → Option ℕ
  in_signal p = option_map (λ m. signal.first + m) p

  module _ (n : ℕ) where
    abbrev in_word : Option ℕ → Option ℕ
    in_word p = option_map (λ m. (signal.first + n * word_length signal) + m) p

    one_in_word : (len : ℕ) (z : ℤ) → len ≡ word_length signal → in_signal (at_place None (spread (word_length signal) (Some n)) (below len z)) ≡ in_word (below len z)
    one_in_word len (negsuc m) e = refl
    one_in_word len (pos m) e = by_test (nat_lt m len) (λ t. rw t (there (subst (λ k. m < k) e (is_less t)))) (λ t. rw t refl)
      where
        is_less : nat_lt m len ≡ true → m < len
        is_less t = grind (arith)

        there : m < word_length signal → in_signal (get_or (map Some (count_from (n * word_length signal) (word_length signal))) m None) ≡ Some ((signal.first + n * word_length signal) + m)
        there l = ap in_signal (count_at (n * word_length signal) (word_length signal) m l) ∙ ap Some (omega arith)

    all_in_word : (len : ℕ) (z : ℤ) (w : ℕ) → len ≡ word_length signal → map in_signal (map (at_place None (spread (word_length signal) (Some n))) (places_from len z w)) ≡ map in_word (places_from len z w)
    all_in_word len z zero e = refl
    all_in_word len z (suc w) e =
        ap {B = List (Option ℕ)} (λ p. p ∷ map in_signal (map (at_place None (spread (word_length signal) (Some n))) (places_from len (z +ℤ pos 1) w))) (one_in_word len z e)
        ∙ ap {B = List (Option ℕ)} (λ ps. in_word (below len z) ∷ ps) (all_in_word len (z +ℤ pos 1) w e)

    unknown_in_word : (w : ℕ) → map in_signal (map (at_place None (spread (word_length signal) (Some n))) (replicate w None)) ≡ map in_word (replicate w None)
    unknown_in_word zero = refl
    unknown_in_word (suc w) = ap {B = List (Option ℕ)} (λ ps. None ∷ ps) (unknown_in_word w)

    taken : (part : Part) (j : Bool) (vs : BitList) → range_length part.range ≡ word_length signal → map in_signal (map (at_place None (spread (word_length signal) (Some n))) (places part j vs)) ≡ map in_word (places part j vs)
    taken part j vs e =
        ap {B = List (Option ℕ)} (λ ps. map in_signal (map (at_place None (spread (word_length signal) (Some n))) ps)) (places_are part j vs)
        ∙ by_test (all_known vs)
        (λ t. rw t (all_in_word (range_length part.range) (first_place part (integer j vs)) part.width e))
        (λ t. rw t (unknown_in_word part.width))
        ∙ sym (ap {B = List (Option ℕ)} (map in_word) (places_are part j vs))

  none_taken : (k : ℕ) (ps : List (Option ℕ)) → map in_signal (map (at_place None (replicate k None)) ps) ≡ replicate (length ps) None
  none_taken k [] = refl
  none_taken k (p ∷ ps) = ap {B = List (Option ℕ)} (λ q. in_signal q ∷ map in_signal (map (at_place None (replicate k None)) ps)) (none_at k p) ∙ ap {B = List (Option ℕ)} (λ qs. None ∷ qs) (none_taken k ps)

pub parts_of_word : PartsOfWord
parts_of_word signal g us part j vs n e a = ap {B = List (Option ℕ)} (λ o. bits_at signal (map (at_place None (spread (word_length signal) o)) (places part j vs))) a ∙ taken signal n part j vs e

pub parts_of_none : PartsOfNone
parts_of_none signal g us part j vs a =
    ap {B = List (Option ℕ)} (λ o. bits_at signal (map (at_place None (spread (word_length signal) o)) (places part j vs))) a
    ∙ none_taken signal (word_length signal) (places part j vs)
    ∙ ap (λ w. replicate w None) (length_places part j vs)

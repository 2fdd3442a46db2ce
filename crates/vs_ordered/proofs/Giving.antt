-- Vectors of the inputs' lengths, as values of all bits: the data inputs have the values of the vector.
use Rattle.std.proofs.Common.{◌≡◌, ◌<◌, ◌≤◌, ◌+◌, ◌∙◌, ◌==◌, ◌&&◌, ℕ, zero, suc, Bool, true, false, not, if◌then◌else◌, List, [], ◌∷◌, ◌++◌, length, map, filter, sym, ap, ap₂, refl, subst, arith, inl, inr}
use Rattle.std.proofs.lemmas.Bool.{eq-eqb}
use Rattle.std.proofs.lemmas.Bool.Decides.{nat_tests}
use Rattle.vs_four.specs.declared.Bit4.{Bit4}
use Rattle.vs_four.specs.declared.Bit4.TheVariants.{X}
use Rattle.vs_four.specs.Logic.{BitList, map2}
use Rattle.vs_net.specs.Network.{State, put, write_all}
use Rattle.vs_design.specs.Clocks.{clock_bits}
use Rattle.vs_design.specs.Expressions.{Signal, signal_length}
use Rattle.vs_design.specs.Designs.{Design, top_inputs}
use Rattle.vs_design.specs.Values.{count_from, bits_of_signal, read}
use Rattle.vs_design.specs.Footprints.{contains, signals_bits}
use Rattle.vs_design.specs.Elaborated.{have_bits_from}
use Rattle.vs_design.specs.Resets.{reset_inputs}
use Rattle.vs_design.specs.Selects.{select_firsts}
use Rattle.vs_design.specs.Accepted.{IsAcceptedDesign}
use Rattle.vs_queue.specs.Driven as Q
use Rattle.vs_queue.specs.Driven.{AreGiven, AreVectors}
use Rattle.vs_stim.specs.Header.{lengths}
use Rattle.vs_stim.specs.Row.{sizes}
use Rattle.vs_rounds.specs.Drives.{Vector, bits_of, write_to, vector_state}
use Rattle.vs_rounds.specs.Inputs.{is_data_input, input_of, data_inputs}
use Rattle.vs_rounds.proofs.Known.{first_is, data_bits_are}
use Rattle.vs_rounds.proofs.Rereads.{either}
use Rattle.vs_rounds.proofs.Settled.{length-count_from}
use Rattle.vs_ordered.specs.Traced.{AreSized}

-- ---- writes of bits that follow one another

put_other : (s : State) (c : ℕ) (x : Bit4) (b : ℕ) → b < c → put s c x b ≡ s b
put_other s c x b h = let other : (b == c) ≡ false = grind (arith, nat_tests) in ap (λ (e : Bool). if e then x else s b) other

put_same : (s : State) (c : ℕ) (x : Bit4) → put s c x c ≡ x
put_same s c x = ap (λ (e : Bool). if e then x else s c) (eq-eqb c c refl)

-- a bit below them stays
below : (first n : ℕ) (xs : BitList) (s : State) (b : ℕ) → b < first → write_all s (map2 write_to (count_from first n) xs) b ≡ s b
unfolding write_all
below first zero xs s b h = refl
below first (suc n) [] s b h = refl
below first (suc n) (x ∷ xs) s b h = below (suc first) n xs (put s first x) b (omega arith) ∙ put_other s first x b h

-- and they have what was written
own : (first n : ℕ) (xs : BitList) (s : State) → length xs ≡ n → map (write_all s (map2 write_to (count_from first n) xs)) (count_from first n) ≡ xs
unfolding write_all
own first zero [] s h = refl
own first zero (x ∷ xs) s h = absurd (omega arith)
own first (suc n) [] s h = absurd (omega arith)
own first (suc n) (x ∷ xs) s h =
    ap₂ {C = BitList} (λ (b : Bit4) (bs : BitList). b ∷ bs)
    (below (suc first) n xs (put s first x) first (omega arith) ∙ put_same s first x)
    (own (suc first) n xs (put s first x) (omega arith))

-- one after the other
split : (bs cs : List ℕ) (xs ys : BitList) (s : State) → length bs ≡ length xs → write_all s (map2 write_to (bs ++ cs) (xs ++ ys)) ≡ write_all (write_all s (map2 write_to bs xs)) (map2 write_to cs ys)
unfolding write_all
split [] cs [] ys s h = refl
split [] cs (x ∷ xs) ys s h = absurd (omega arith)
split (b ∷ bs) cs [] ys s h = absurd (omega arith)
split (b ∷ bs) cs (x ∷ xs) ys s h = split bs cs xs ys (put s b x) (omega arith)

same_below : (f g : State) (first n limit : ℕ) → ((b : ℕ) → b < limit → f b ≡ g b) → first + n ≤ limit → map f (count_from first n) ≡ map g (count_from first n)
same_below f g first zero limit same h = refl
same_below f g first (suc n) limit same h =
    ap₂ {C = BitList} (λ (b : Bit4) (bs : BitList). b ∷ bs) (same first (omega arith)) (same_below f g (suc first) n limit same (omega arith))

-- ---- signals whose bits follow one another

abbrev AreAscending : ℕ → List Signal → Type 0
AreAscending base [] = Unit {0}
AreAscending base (s ∷ ss) = (base ≤ s.first) × AreAscending (s.first + signal_length s) ss

lower : (base less : ℕ) (ss : List Signal) → less ≤ base → AreAscending base ss → AreAscending less ss
lower base less [] h up = tt
lower base less (s ∷ ss) h up = (omega (arith, up.0), up.1)

-- those of a design do, and so do those that pass a test
ascending : (test : Signal → Bool) (base : ℕ) (ss : List Signal) → have_bits_from base ss ≡ true → AreAscending base (filter test ss)
ascending test base [] h = tt
ascending test base (s ∷ ss) h =
    let at = first_is base s ss h in
    let rest = ascending test (base + signal_length s) ss at.1 in
    let others = filter test ss in
    elim (either (test s)) [
      | inl on ↦ subst (λ (b : Bool). AreAscending base (if b then (s ∷ others) else others)) (sym on)
          (omega (arith, at.0), subst (λ (n : ℕ). AreAscending n others) (ap (λ (n : ℕ). n + signal_length s) (sym at.0)) rest)
      | inr off ↦ subst (λ (b : Bool). AreAscending base (if b then (s ∷ others) else others)) (sym off) (lower (base + signal_length s) base others (omega arith) rest)
    ]

-- the lengths of a vector's values
first_size : (x : BitList) (xs : Vector) (n : ℕ) (ns : List ℕ) → sizes (x ∷ xs) ≡ n ∷ ns → length x ≡ n
first_size x xs n ns e = cc

later_sizes : (x : BitList) (xs : Vector) (n : ℕ) (ns : List ℕ) → sizes (x ∷ xs) ≡ n ∷ ns → sizes xs ≡ ns
later_sizes x xs n ns e = cc

bits_written : (s : Signal) (ss : List Signal) (x : BitList) (xs : Vector) (v : State) → length x ≡ signal_length s
    → write_all v (map2 write_to (signals_bits (s ∷ ss)) (bits_of (x ∷ xs))) ≡ write_all (write_all v (map2 write_to (bits_of_signal s) x)) (map2 write_to (signals_bits ss) (bits_of xs))
bits_written s ss x xs v long = split (bits_of_signal s) (signals_bits ss) x (bits_of xs) v (length-count_from s.first (signal_length s) ∙ sym long)

-- a bit below all of them stays
kept_below : (base : ℕ) (ss : List Signal) (xs : Vector) (v : State) (b : ℕ) → AreAscending base ss → b < base → sizes xs ≡ map signal_length ss → write_all v (map2 write_to (signals_bits ss) (bits_of xs)) b ≡ v b
unfolding write_all
kept_below base [] xs v b up h fits = refl
kept_below base (s ∷ ss) [] v b up h fits = absurd (cc)
kept_below base (s ∷ ss) (x ∷ xs) v b up h fits =
    let long = first_size x xs (signal_length s) (map signal_length ss) fits in
    ap (λ (w : State). w b) (bits_written s ss x xs v long)
    ∙ kept_below (s.first + signal_length s) ss xs (write_all v (map2 write_to (bits_of_signal s) x)) b up.1 (omega (arith, up.0, h)) (later_sizes x xs (signal_length s) (map signal_length ss) fits)
    ∙ below s.first (signal_length s) x v b (omega (arith, up.0, h))

-- each has its value
given : (base : ℕ) (ss : List Signal) (xs : Vector) (v : State) → AreAscending base ss → sizes xs ≡ map signal_length ss → AreGiven ss xs (write_all v (map2 write_to (signals_bits ss) (bits_of xs)))
given base [] [] v up fits = tt
given base [] (x ∷ xs) v up fits = absurd (cc)
given base (s ∷ ss) [] v up fits = absurd (cc)
given base (s ∷ ss) (x ∷ xs) v up fits =
    let long = first_size x xs (signal_length s) (map signal_length ss) fits in
    let rest = later_sizes x xs (signal_length s) (map signal_length ss) fits in
    let limit = s.first + signal_length s in
    let w : State = write_all v (map2 write_to (bits_of_signal s) x) in
    let last : State = write_all w (map2 write_to (signals_bits ss) (bits_of xs)) in
    let here : read last (bits_of_signal s) ≡ x =
    same_below last w s.first (signal_length s) limit (λ b h. kept_below limit ss xs w b up.1 h rest) (omega arith)
    ∙ own s.first (signal_length s) x v long in
    subst (λ (u : State). AreGiven (s ∷ ss) (x ∷ xs) u) (sym (bits_written s ss x xs v long)) (here, given limit ss xs w up.1 rest)

-- ---- data inputs

-- the inputs but the clock
twice : (clocks : List ℕ) (ss : List Signal) → filter (λ (s : Signal). not (contains clocks s.first)) (filter (λ (s : Signal). s.input) ss) ≡ filter (is_data_input clocks) ss
twice clocks [] = refl
twice clocks (s ∷ ss) = by s.input (twice clocks ss)
  where
    by : (i : Bool) → filter (λ (x : Signal). not (contains clocks x.first)) (filter (λ (x : Signal). x.input) ss) ≡ filter (is_data_input clocks) ss
        → filter (λ (x : Signal). not (contains clocks x.first)) (if i then (s ∷ filter (λ (x : Signal). x.input) ss) else filter (λ (x : Signal). x.input) ss)
        ≡ (if i && not (contains clocks s.first) then (s ∷ filter (is_data_input clocks) ss) else filter (is_data_input clocks) ss)
    by true e = ap (λ (xs : List Signal). if not (contains clocks s.first) then (s ∷ xs) else xs) e
    by false e = e

lengths_are : (resets selects : List ℕ) (ss : List Signal) → lengths (map (input_of resets selects) ss) ≡ map signal_length ss
lengths_are resets selects [] = refl
lengths_are resets selects (s ∷ ss) = ap (λ (ns : List ℕ). signal_length s ∷ ns) (lengths_are resets selects ss)

vector_given : (d : Design) (names : List (List ℕ)) (a : IsAcceptedDesign d names) (x : Vector) → sizes x ≡ lengths (data_inputs d (clock_bits a.clocks)) → AreGiven (Q.data_inputs (clock_bits a.clocks) (top_inputs d)) x (vector_state d (clock_bits a.clocks) x)
vector_given d names a x fits =
    let clocks = (clock_bits a.clocks) in
    let those : List Signal = filter (is_data_input clocks) d.signals in
    let up = ascending (is_data_input clocks) 0 d.signals a.lawful.bits_numbered in
    let here = given 0 those x (λ b. X) up (fits ∙ lengths_are (reset_inputs d clocks) (select_firsts d) those) in
    subst (λ (ss : List Signal). AreGiven ss x (vector_state d clocks x)) (sym (twice clocks d.signals))
    (subst (λ (bs : List ℕ). AreGiven those x (write_all (λ b. X) (map2 write_to bs (bits_of x)))) (sym (data_bits_are d names a)) here)

pub vectors_given : (d : Design) (names : List (List ℕ)) (a : IsAcceptedDesign d names) (xs : List Vector) → AreSized d (clock_bits a.clocks) xs → AreVectors d (clock_bits a.clocks) xs (map (vector_state d (clock_bits a.clocks)) xs)
vectors_given d names a [] fits = tt
vectors_given d names a (x ∷ xs) fits = (vector_given d names a x (fits 0 x (omega arith)), vectors_given d names a xs (λ k y h. fits (suc k) y (omega (arith, h))))

-- Clock inputs that are found name by name.
use Rattle.std.proofs.Common.{◌≡◌, ℕ, zero, suc, ◌+◌, ◌≤◌, ◌<◌, Bool, true, false, List, [], ◌∷◌, ◌++◌, ◌||◌, ◌==◌, refl, sym, ap, ◌∙◌, subst, eqb-true, get_or, map, take, drop, length, length-append, length-drop, ◌-◌, arith, Some, None, Option, option_map, if◌then◌else◌}
use Rattle.std.specs.Prelude.{slice_get}
use Rattle.std.specs.List.{list_any}
use Rattle.std.proofs.lemmas.List.{take_all}
use Rattle.std.proofs.lemmas.Option.{slice_get-get_or}
use Rattle.vs_design.specs.Expressions.{Signal}
use Rattle.vs_design.specs.Designs.{Design}
use Rattle.vs_design.specs.Footprints.{contains}
use Rattle.vs_design.specs.Clocks.{same_name, named_input, and_inputs, named_inputs, clock_bits}
use Rattle.vs_flat.specs.Arena.{Arena}
use Rattle.vs_flat.specs.Laws.{CountsStay}
use Rattle.vs_flat.specs.Trees.{no_signal, signal_at}
use Rattle.vs_flat.specs.DesignOf.{arena_signals, design_of}
use Rattle.vs_clock.specs.Inputs.{AreNamed}
use Rattle.vs_reads.proofs.Tests.{by_test, contains-append}

-- the inputs of the first k names are these, and what all names give is these and what the others give
abbrev pub IsNamedSoFar : Design → List (List ℕ) → ℕ → List Signal → Type 0
IsNamedSoFar d names k ss = named_inputs d names ≡ option_map (λ rest. ss ++ rest) (named_inputs d (drop k names))

at_drop : (names : List (List ℕ)) (k : ℕ) → k < length names → drop k names ≡ get_or names k [] ∷ drop (k + 1) names
at_drop names k l = let on : suc k ≡ k + 1 = omega arith in go names k l ∙ ap {B = List (List ℕ)} (λ n. get_or names k [] ∷ drop n names) on
  where
    go : (ns : List (List ℕ)) (k : ℕ) → k < length ns → drop k ns ≡ get_or ns k [] ∷ drop (suc k) ns
    go [] k l = absurd (omega (arith, l))
    go (x ∷ xs) zero l = refl
    go (x ∷ xs) (suc k) l = go xs k (omega (arith, l))

none_left : (names : List (List ℕ)) (k : ℕ) → length names ≤ k → drop k names ≡ []
none_left [] zero l = refl
none_left [] (suc k) l = refl
none_left (x ∷ xs) zero l = absurd (omega (arith, l))
none_left (x ∷ xs) (suc k) l = none_left xs k (omega (arith, l))

turned : (ss : List Signal) (s : Signal) (rest : List Signal) → ss ++ s ∷ rest ≡ (ss ++ s ∷ []) ++ rest
turned [] s rest = refl
turned (x ∷ xs) s rest = ap {B = List Signal} (λ ys. x ∷ ys) (turned xs s rest)

append_nil : (ss : List Signal) → ss ++ [] ≡ ss
append_nil [] = refl
append_nil (x ∷ xs) = ap {B = List Signal} (λ ys. x ∷ ys) (append_nil xs)

module _ (d : Design) (names : List (List ℕ)) (k : ℕ) (ss : List Signal) where
  abbrev name : List ℕ
  name = get_or names k []

  abbrev others : List (List ℕ)
  others = drop (k + 1) names

  at_name : k < length names → IsNamedSoFar d names k ss → named_inputs d names ≡ option_map (λ rest. ss ++ rest) (if list_any (same_name name) others then None else and_inputs (named_input d name) (named_inputs d others))
  at_name l h = h ∙ ap (λ ns. option_map (λ rest. ss ++ rest) (named_inputs d ns)) (at_drop names k l)

  -- a name that is there again
  pub named_again : k < length names → IsNamedSoFar d names k ss → list_any (same_name name) others ≡ true → named_inputs d names ≡ None
  named_again l h e = at_name l h ∙ ap (λ (g : Bool). option_map (λ rest. ss ++ rest) (if g then None else and_inputs (named_input d name) (named_inputs d others))) e

  at_new : k < length names → IsNamedSoFar d names k ss → list_any (same_name name) others ≡ false → (o : Option Signal) → named_input d name ≡ o → named_inputs d names ≡ option_map (λ rest. ss ++ rest) (and_inputs o (named_inputs d others))
  at_new l h e o f =
      at_name l h ∙ ap (λ (g : Bool). option_map (λ rest. ss ++ rest) (if g then None else and_inputs (named_input d name) (named_inputs d others))) e
      ∙ ap (λ o. option_map (λ rest. ss ++ rest) (and_inputs o (named_inputs d others))) f

  -- one that no input has
  pub not_named : k < length names → IsNamedSoFar d names k ss → list_any (same_name name) others ≡ false → named_input d name ≡ None → named_inputs d names ≡ None
  not_named l h e f = at_new l h e None f

  -- and one that an input has
  one_named : k < length names → IsNamedSoFar d names k ss → list_any (same_name name) others ≡ false → (s : Signal) → named_input d name ≡ Some s → IsNamedSoFar d names (k + 1) (ss ++ s ∷ [])
  one_named l h e s f = at_new l h e (Some s) f ∙ go (named_inputs d others)
    where
      go : (o : Option (List Signal)) → option_map (λ rest. ss ++ rest) (and_inputs (Some s) o) ≡ option_map (λ rest. (ss ++ s ∷ []) ++ rest) o
      go None = refl
      go (Some rest) = ap Some (turned ss s rest)

  all_named : length names ≤ k → IsNamedSoFar d names k ss → named_inputs d names ≡ Some ss
  all_named l h = h ∙ ap (λ ns. option_map (λ rest. ss ++ rest) (named_inputs d ns)) (none_left names k l) ∙ ap Some (append_nil ss)

-- ---- names behind references

any_map : {A : Type 0} (f : A → List ℕ) (t : List ℕ → Bool) (xs : List A) → list_any (λ x. t (f x)) xs ≡ list_any t (map f xs)
any_map f t [] = refl
any_map f t (x ∷ xs) = ap {B = Bool} (λ c. t (f x) || c) (any_map f t xs)

-- the name at k
pub name_at : {A : Type 0} (f : A → List ℕ) (xs : List A) (k : ℕ) (x : A) → slice_get xs k ≡ Some x → f x ≡ get_or (map f xs) k []
name_at f [] k x e = cc
name_at f (y ∷ xs) zero x e = let same : x ≡ y = cc in ap f same
name_at f (y ∷ xs) (suc k) x e = name_at f xs k x e

rest_taken : {A : Type 0} (xs : List A) (n : ℕ) → take (length xs - n) (drop n xs) ≡ drop n xs
rest_taken xs n = let d = length-drop n xs in take_all (length xs - n) (drop n xs) (omega (arith, d))

map_drop : {A : Type 0} (f : A → List ℕ) (xs : List A) (n : ℕ) → map f (drop n xs) ≡ drop n (map f xs)
map_drop f [] zero = refl
map_drop f [] (suc n) = refl
map_drop f (x ∷ xs) zero = refl
map_drop f (x ∷ xs) (suc n) = map_drop f xs n

pub map_long : {A : Type 0} (f : A → List ℕ) (xs : List A) → length (map f xs) ≡ length xs
map_long f [] = refl
map_long f (x ∷ xs) = ap suc (map_long f xs)

-- whether the name at k is there again
pub there_again : {A : Type 0} (f : A → List ℕ) (xs ys : List A) (k : ℕ) (x : A) (r : Bool) → slice_get xs k ≡ Some x → ys ≡ take (length xs - (k + 1)) (drop (k + 1) xs) → r ≡ list_any (λ c. same_name (f x) (f c)) ys → r ≡ list_any (same_name (get_or (map f xs) k [])) (drop (k + 1) (map f xs))
there_again f xs ys k x r at p e =
    e ∙ any_map f (same_name (f x)) ys
    ∙ ap (λ n. list_any (same_name n) (map f ys)) (name_at f xs k x at)
    ∙ ap (λ zs. list_any (same_name (get_or (map f xs) k [])) zs) (ap (map f) (p ∙ rest_taken xs (k + 1)) ∙ map_drop f xs (k + 1))

-- ---- the loop over the names

-- the inputs of the first k names by their numbers, and their bits
pub record SoFar (a : Arena) (names : List (List ℕ)) (k : ℕ) (numbers bits : List ℕ) : Type 0 where
  pub count : length numbers ≡ k
  pub most : k ≤ length names
  pub below : (n : ℕ) → contains numbers n ≡ true → n < length a.signals
  pub are : IsNamedSoFar (design_of a) names k (map (signal_at (arena_signals a)) numbers)
  pub bits_are : bits ≡ clock_bits (map (signal_at (arena_signals a)) numbers)

pub none_yet : (a : Arena) (names : List (List ℕ)) → SoFar a names 0 [] []
none_yet a names = record { count = refl; most = omega arith; below = λ n h. cc; are = go (named_inputs (design_of a) names); bits_are = refl }
  where
    go : (o : Option (List Signal)) → o ≡ option_map (λ rest. [] ++ rest) o
    go None = refl
    go (Some ss) = refl

bits_append : (xs : List Signal) (s : Signal) → clock_bits (xs ++ s ∷ []) ≡ clock_bits xs ++ s.first ∷ []
bits_append [] s = refl
bits_append (x ∷ xs) s = ap {B = List ℕ} (λ ys. x.first ∷ ys) (bits_append xs s)

signals_append : (f : ℕ → Signal) (ns : List ℕ) (n : ℕ) → map f (ns ++ n ∷ []) ≡ map f ns ++ f n ∷ []
signals_append f [] n = refl
signals_append f (x ∷ xs) n = ap {B = List Signal} (λ ys. f x ∷ ys) (signals_append f xs n)

pub one_found : (a : Arena) (names : List (List ℕ)) (k : ℕ) (numbers bits : List ℕ) (number bit : ℕ) → k < length names → SoFar a names k numbers bits → list_any (same_name (get_or names k [])) (drop (k + 1) names) ≡ false
    → Some (signal_at (arena_signals a) number) ≡ named_input (design_of a) (get_or names k []) → number < length a.signals → bit ≡ (signal_at (arena_signals a) number).first → SoFar a names (k + 1) (numbers ++ number ∷ []) (bits ++ bit ∷ [])
one_found a names k numbers bits number bit l h e f low b = record {
  count = (let n = length-append numbers (number ∷ []) in let m = h.count in omega (arith, n, m));
  most = omega (arith, l);
  below = λ n m. by_test (contains numbers n) (λ q. h.below n q) (λ q. subst (λ z. z < length a.signals) (sym (last n (subst (λ t. (t || contains (number ∷ []) n) ≡ true) q (sym (contains-append numbers (number ∷ []) n) ∙ m)))) low);
  are = subst (IsNamedSoFar (design_of a) names (k + 1)) (sym (signals_append sig numbers number)) (one_named (design_of a) names k (map sig numbers) l h.are e (sig number) (sym f));
  bits_are = ap {B = List ℕ} (λ bs. bs ++ bit ∷ []) h.bits_are ∙ ap {B = List ℕ} (λ n. clock_bits (map sig numbers) ++ n ∷ []) b ∙ sym (ap clock_bits (signals_append sig numbers number) ∙ bits_append (map sig numbers) (sig number));
}
  where
    sig : ℕ → Signal
    sig n = signal_at (arena_signals a) n

    last : (n : ℕ) → contains (number ∷ []) n ≡ true → n ≡ number
    last n m = by_test (n == number) (λ q. eqb-true n number q) (λ q. absurd (let z = subst (λ t. (t || false) ≡ true) q m in cc))

pub all_found : CountsStay → (a : Arena) (names : List (List ℕ)) (k : ℕ) (numbers bits : List ℕ) → length names ≤ k → SoFar a names k numbers bits → AreNamed (design_of a) names numbers bits
all_found counts a names k numbers bits l h = record {
  signals = map (signal_at (arena_signals a)) numbers;
  named = (let m = h.count in let n = h.most in omega (arith, l, m, n));
  there = λ j n e. (signal_at (arena_signals a) n, slice_get-get_or (arena_signals a) n no_signal (subst (λ m. n < m) (sym (counts a).signals) (h.below n (member numbers j n e))), mapped numbers j n e);
  are = all_named (design_of a) names k (map (signal_at (arena_signals a)) numbers) l h.are;
  bits_are = h.bits_are;
}
  where
    member : (ns : List ℕ) (j n : ℕ) → slice_get ns j ≡ Some n → contains ns n ≡ true
    member [] j n e = cc
    member (x ∷ xs) zero n e = let same : n ≡ x = cc in Rattle.vs_reads.proofs.Tests.or_left (n == x) (contains xs n) (Rattle.std.proofs.Common.eq-eqb n x same)
    member (x ∷ xs) (suc j) n e = Rattle.vs_reads.proofs.Tests.or_right (n == x) (contains xs n) (member xs j n e)

    mapped : (ns : List ℕ) (j n : ℕ) → slice_get ns j ≡ Some n → slice_get (map (signal_at (arena_signals a)) ns) j ≡ Some (signal_at (arena_signals a) n)
    mapped [] j n e = cc
    mapped (x ∷ xs) zero n e = let same : x ≡ n = cc in ap (λ m. Some (signal_at (arena_signals a) m)) same
    mapped (x ∷ xs) (suc j) n e = mapped xs j n e

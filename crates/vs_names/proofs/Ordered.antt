-- The place of a number is where what has it in the order of the text begins.
use Rattle.std.proofs.Common.{◌≡◌, ℕ, zero, suc, ◌+◌, ◌-◌, ◌≤◌, ◌<◌, Bool, true, false, List, [], ◌∷◌, ◌++◌, map, length, if◌then◌else◌, refl, sym, ap, ap₂, ◌∙◌, subst, arith, ◌⊎◌, inl, inr}
use Rattle.std.specs.Prelude.{option_map, slice_get, nat_le, ◌==◌, ◌&&◌}
use Rattle.std.proofs.lemmas.Bool.{leb-true, le-leb, eq-eqb, ne_eqb, and_parts, cases_lt}
use Rattle.std.proofs.lemmas.List.{map-append}
use Rattle.std.proofs.lemmas.Option.{slice_get-map}
use Rattle.vs_design.specs.Designs.{Process, Initial, OfProcess, OfInitial, process_place, standing, text_from, any_place}
use Rattle.vs_design.specs.Elaborated.{are_behind}
use Rattle.vs_names.specs.Drawn.{place_numbered, PlacesInText}
use Rattle.vs_names.proofs.Placed.{is_first, is_before, is_behind}

-- where the initial processes begin that stand behind p processes, and then all that follows
abbrev here : ℕ → List Initial → List ℕ
here p [] = []
here p (i ∷ is) = if i.behind == p then i.place ∷ here p is else here p is

abbrev places : ℕ → List Process → List Initial → List ℕ
places p [] is = here p is
places p (x ∷ ps) is = here p is ++ process_place x ∷ places (suc p) ps is

standing_here : (p k : ℕ) (is : List Initial) → map any_place (standing p k is) ≡ here p is
standing_here p k [] = refl
standing_here p k (i ∷ is) = at (i.behind == p) (standing_here p (suc k) is)
  where
    at : (c : Bool) → map any_place (standing p (suc k) is) ≡ here p is → map any_place ((if c then (OfInitial k i ∷ []) else []) ++ standing p (suc k) is) ≡ (if c then i.place ∷ here p is else here p is)
    at true h = ap (λ (xs : List ℕ). i.place ∷ xs) h
    at false h = h

text_places : (p : ℕ) (ps : List Process) (is : List Initial) → map any_place (text_from p ps is) ≡ places p ps is
text_places p [] is = standing_here p 0 is
text_places p (x ∷ ps) is =
    map-append any_place (standing p 0 is) (OfProcess p x ∷ text_from (suc p) ps is) ∙ ap₂ (λ (xs ys : List ℕ). xs ++ process_place x ∷ ys) (standing_here p 0 is) (text_places (suc p) ps is)

-- ---- the first initial process

stands : (p : ℕ) (i : Initial) (is : List Initial) → i.behind ≡ p → here p (i ∷ is) ≡ i.place ∷ here p is
stands p i is e = ap (λ (c : Bool). if c then i.place ∷ here p is else here p is) (eq-eqb i.behind p e)

stands_on : (p : ℕ) (i : Initial) (is : List Initial) → (i.behind ≡ p → ⊥) → here p (i ∷ is) ≡ here p is
stands_on p i is e = ap (λ (c : Bool). if c then i.place ∷ here p is else here p is) (ne_eqb i.behind p e)

-- one that stands earlier is passed
later : (p : ℕ) (ps : List Process) (i : Initial) (is : List Initial) → i.behind < p → places p ps (i ∷ is) ≡ places p ps is
later p [] i is h = stands_on p i is (λ e. absurd (omega (arith, h, e)))
later p (x ∷ ps) i is h = ap₂ (λ (xs ys : List ℕ). xs ++ process_place x ∷ ys) (stands_on p i is (λ e. absurd (omega (arith, h, e)))) (later (suc p) ps i is (omega (arith, h)))

first_is : (p : ℕ) (ps : List Process) (i : Initial) (is : List Initial) → i.behind ≡ p → places p ps (i ∷ is) ≡ i.place ∷ places p ps is
first_is p [] i is e = stands p i is e
first_is p (x ∷ ps) i is e = ap₂ (λ (xs ys : List ℕ). xs ++ process_place x ∷ ys) (stands p i is e) (later (suc p) ps i is (omega (arith, e)))

record Sorted (first count : ℕ) (i : Initial) (is : List Initial) : Type 0 where
  after : first ≤ i.behind
  most : i.behind ≤ count
  rest : are_behind i.behind count is ≡ true

sorted : (first count : ℕ) (i : Initial) (is : List Initial) → are_behind first count (i ∷ is) ≡ true → Sorted first count i is
sorted first count i is h =
    let a = and_parts (nat_le first i.behind && nat_le i.behind count) (are_behind i.behind count is) h in
    let b = and_parts (nat_le first i.behind) (nat_le i.behind count) a.0 in
    record { after = leb-true first i.behind b.0; most = leb-true i.behind count b.1; rest = a.1 }

sort : (first count : ℕ) (i : Initial) (is : List Initial) → first ≤ i.behind → i.behind ≤ count → are_behind i.behind count is ≡ true → are_behind first count (i ∷ is) ≡ true
sort first count i is a b r =
    ap₂ (λ (c e : Bool). (c && nat_le i.behind count) && e) (le-leb first i.behind a) r ∙ ap (λ (c : Bool). c && true) (le-leb i.behind count b)

none_here : (p first count : ℕ) (is : List Initial) → p < first → are_behind first count is ≡ true → here p is ≡ []
none_here p first count [] l h = refl
none_here p first count (i ∷ is) l h =
    let s = sorted first count i is h in
    let after = s.after in
    stands_on p i is (λ e. absurd (omega (arith, l, after, e))) ∙ none_here p i.behind count is (omega (arith, l, after)) s.rest

-- ---- by the first initial process and the first process

abbrev Sort : ℕ → List Process → List Initial → Type 0
Sort p ps is = are_behind p (p + length ps) is ≡ true

module _ (all : List Process) where
  -- these are the processes from number p on
  abbrev IsRest : ℕ → List Process → Type 0
  IsRest p ps = (m : ℕ) → slice_get all (p + m) ≡ slice_get ps m

  abbrev Told : ℕ → List Process → List Initial → Type 0
  Told p ps is = (n : ℕ) → slice_get (places p ps is) n ≡ place_numbered all is (p + n)

  one_more : (p m : ℕ) → p + suc m ≡ suc p + m
  one_more p m = omega arith

  rest_more : (p : ℕ) (y : Process) (ps : List Process) → IsRest p (y ∷ ps) → IsRest (suc p) ps
  rest_more p y ps r m = sym (ap (λ k. slice_get all k) (one_more p m)) ∙ r (suc m)

  alone : (p : ℕ) (ps : List Process) → IsRest p ps → Told p ps []
  alone p [] r n = sym (ap (option_map process_place) (r n))
  alone p (y ∷ ps) r zero = sym (ap (option_map process_place) (r 0))
  alone p (y ∷ ps) r (suc m) = alone (suc p) ps (rest_more p y ps r) m ∙ sym (ap (place_numbered all []) (one_more p m))

  first_here : (i : Initial) (is : List Initial) (p : ℕ) (ps : List Process) → i.behind ≡ p → Told p ps is → Told p ps (i ∷ is)
  first_here i is p ps e rest n = ap (λ (xs : List ℕ). slice_get xs n) (first_is p ps i is e) ∙ go n
    where
      less : (m : ℕ) → p + m ≡ p + suc m - 1
      less m = omega arith

      go : (n : ℕ) → slice_get (i.place ∷ places p ps is) n ≡ place_numbered all (i ∷ is) (p + n)
      go zero = sym (is_first all i is (p + 0) (omega (arith, e)))
      go (suc m) = rest m ∙ (ap (place_numbered all is) (less m) ∙ sym (is_behind all i is (p + suc m) (omega (arith, e))))

  before : (i : Initial) (is : List Initial) (p : ℕ) (y : Process) (ps : List Process) → p < i.behind → are_behind i.behind (p + suc (length ps)) is ≡ true → IsRest p (y ∷ ps)
      → Told (suc p) ps (i ∷ is) → Told p (y ∷ ps) (i ∷ is)
  before i is p y ps l s r rest n = ap (λ (xs : List ℕ). slice_get (xs ++ process_place y ∷ places (suc p) ps (i ∷ is)) n) nothing ∙ go n
    where
      nothing : here p (i ∷ is) ≡ []
      nothing = stands_on p i is (λ e. absurd (omega (arith, l, e))) ∙ none_here p i.behind (p + suc (length ps)) is l s

      go : (n : ℕ) → slice_get (process_place y ∷ places (suc p) ps (i ∷ is)) n ≡ place_numbered all (i ∷ is) (p + n)
      go zero = sym (is_before all i is (p + 0) (omega (arith, l)) ∙ ap (option_map process_place) (r 0))
      go (suc m) = rest m ∙ sym (ap (place_numbered all (i ∷ is)) (one_more p m))

  by_first : (i : Initial) (is : List Initial) → ((p : ℕ) (ps : List Process) → Sort p ps is → IsRest p ps → Told p ps is) → (ps : List Process) (p : ℕ) → Sort p ps (i ∷ is) → IsRest p ps → Told p ps (i ∷ is)
  by_first i is rest [] p h r =
      let s = sorted p (p + 0) i is h in
      let after = s.after in
      let most = s.most in
      let same : i.behind ≡ p = omega (arith, after, most) in
      first_here i is p [] same (rest p [] (subst (λ (n : ℕ). are_behind n (p + 0) is ≡ true) same s.rest) r)
  by_first i is rest (y ∷ ps) p h r = at (by_first i is rest ps (suc p)) (cases_lt p i.behind)
    where
      moved : p + suc (length ps) ≡ suc p + length ps
      moved = omega arith

      at : (Sort (suc p) ps (i ∷ is) → IsRest (suc p) ps → Told (suc p) ps (i ∷ is)) → (p < i.behind) ⊎ (i.behind ≤ p) → Told p (y ∷ ps) (i ∷ is)
      at on (inl l) =
          let s = sorted p (p + suc (length ps)) i is h in
          let again : Sort (suc p) ps (i ∷ is) = subst (λ (n : ℕ). are_behind (suc p) n (i ∷ is) ≡ true) moved (sort (suc p) (p + suc (length ps)) i is (omega (arith, l)) s.most s.rest) in
          before i is p y ps l s.rest r (on again (rest_more p y ps r))
      at on (inr l) =
          let s = sorted p (p + suc (length ps)) i is h in
          let after = s.after in
          let same : i.behind ≡ p = omega (arith, after, l) in
          first_here i is p (y ∷ ps) same (rest p (y ∷ ps) (subst (λ (n : ℕ). are_behind n (p + suc (length ps)) is ≡ true) same s.rest) r)

  told : (is : List Initial) (p : ℕ) (ps : List Process) → Sort p ps is → IsRest p ps → Told p ps is
  told [] p ps h r = alone p ps r
  told (i ∷ is) p ps h r = by_first i is (told is) ps p h r

pub places_in_text : PlacesInText
places_in_text d n lawful =
    ap (place_numbered d.processes d.initials) from_first
    ∙ (sym (told d.processes d.initials 0 d.processes in_order (λ m. ap (λ k. slice_get d.processes k) (sym (from m))) n)
    ∙ (ap (λ (xs : List ℕ). slice_get xs n) (sym (text_places 0 d.processes d.initials)) ∙ slice_get-map any_place (text_from 0 d.processes d.initials) n))
  where
    from : (m : ℕ) → m ≡ 0 + m
    from m = omega arith

    from_first : n ≡ 0 + n
    from_first = omega arith

    in_order : Sort 0 d.processes d.initials
    in_order = subst (λ (count : ℕ). are_behind 0 count d.initials ≡ true) (from (length d.processes)) lawful.behind

-- The place of a process in the order of the text is its number.
use Rattle.std.proofs.Common.{◌≡◌, ℕ, zero, suc, ◌+◌, ◌≤◌, Bool, true, false, List, [], ◌∷◌, ◌++◌, length, if◌then◌else◌, refl, sym, ap, ap₂, ◌∙◌, subst, arith, eqb-true}
use Rattle.std.specs.Prelude.{Some, slice_get, nat_le, ◌==◌, ◌&&◌}
use Rattle.std.proofs.lemmas.Bool.{leb-true, le-leb, ne_eqb, and_parts}
use Rattle.std.proofs.lemmas.Option.{slice_get_within}
use Rattle.vs_design.specs.Designs as D
use Rattle.vs_design.specs.Designs.{Process, Initial, OfProcess, OfInitial, standing, text_from, in_text_order}
use Rattle.vs_design.specs.Elaborated.{are_behind}
use Rattle.vs_flat.specs.declared.processes.AnyProcess.{AnyProcess}
use Rattle.vs_flat.specs.declared.processes.AnyProcess.TheVariants as any
use Rattle.vs_flat.specs.TextOrder.{text_numbers, ProcessesInText, InitialsInText}
use Rattle.vs_accept.specs.Numbers.{starts_before, number_of, NumbersArePlaces}
use Rattle.vs_accept.proofs.Numbered.{goes, stops, has_number, has_start_number}

-- the order of the text, with the initial processes from number k on
abbrev ordered : ℕ → List Process → ℕ → List Initial → List D.AnyProcess
ordered p [] k is = standing p k is
ordered p (x ∷ ps) k is = standing p k is ++ OfProcess p x ∷ ordered (suc p) ps k is

same_order : (p : ℕ) (ps : List Process) (is : List Initial) → text_from p ps is ≡ ordered p ps 0 is
same_order p [] is = refl
same_order p (x ∷ ps) is = ap (λ (xs : List D.AnyProcess). standing p 0 is ++ OfProcess p x ∷ xs) (same_order (suc p) ps is)

apart : (m n : ℕ) → suc m ≤ n → (m == n) ≡ false
apart m n h = ne_eqb m n (λ e. absurd (omega (arith, h, e)))

apart_above : (m n : ℕ) → suc n ≤ m → (m == n) ≡ false
apart_above m n h = ne_eqb m n (λ e. absurd (omega (arith, h, e)))

above : (m n : ℕ) → n ≤ m → (m == n) ≡ false → suc n ≤ m
above m n l e = grind arith

stands : (p k : ℕ) (i : Initial) (is : List Initial) → (i.behind == p) ≡ true → standing p k (i ∷ is) ≡ OfInitial k i ∷ standing p (suc k) is
stands p k i is e = ap (λ (c : Bool). (if c then (OfInitial k i ∷ []) else []) ++ standing p (suc k) is) e

stands_on : (p k : ℕ) (i : Initial) (is : List Initial) → (i.behind == p) ≡ false → standing p k (i ∷ is) ≡ standing p (suc k) is
stands_on p k i is e = ap (λ (c : Bool). (if c then (OfInitial k i ∷ []) else []) ++ standing p (suc k) is) e

-- one that stands earlier is passed
later : (p : ℕ) (ps : List Process) (k : ℕ) (i : Initial) (is : List Initial) → suc i.behind ≤ p → ordered p ps k (i ∷ is) ≡ ordered p ps (suc k) is
later p [] k i is h = stands_on p k i is (apart i.behind p h)
later p (x ∷ ps) k i is h =
    ap₂ (λ (xs ys : List D.AnyProcess). xs ++ OfProcess p x ∷ ys) (stands_on p k i is (apart i.behind p h)) (later (suc p) ps k i is (omega (arith, h)))

-- one that stands here is the first
first_is : (p : ℕ) (ps : List Process) (k : ℕ) (i : Initial) (is : List Initial) → (i.behind == p) ≡ true → ordered p ps k (i ∷ is) ≡ OfInitial k i ∷ ordered p ps (suc k) is
first_is p [] k i is e = stands p k i is e
first_is p (x ∷ ps) k i is e =
    let here = eqb-true i.behind p e in
    ap₂ (λ (xs ys : List D.AnyProcess). xs ++ OfProcess p x ∷ ys) (stands p k i is e) (later (suc p) ps k i is (omega (arith, here)))

record Sorted (first count : ℕ) (i : Initial) (is : List Initial) : Type 0 where
  after : first ≤ i.behind
  most : i.behind ≤ count
  rest : are_behind i.behind count is ≡ true

sorted : (first count : ℕ) (i : Initial) (is : List Initial) → are_behind first count (i ∷ is) ≡ true → Sorted first count i is
sorted first count i is h =
    let a = and_parts (nat_le first i.behind && nat_le i.behind count) (are_behind i.behind count is) h in
    let b = and_parts (nat_le first i.behind) (nat_le i.behind count) a.0 in
    record { after = leb-true first i.behind b.0; most = leb-true i.behind count b.1; rest = a.1 }

sort : (first count : ℕ) (i : Initial) (is : List Initial) → first ≤ i.behind → i.behind ≤ count → are_behind i.behind count is ≡ true → are_behind first count (i ∷ is) ≡ true
sort first count i is a b r =
    ap₂ (λ (c e : Bool). (c && nat_le i.behind count) && e) (le-leb first i.behind a) r ∙ ap (λ (c : Bool). c && true) (le-leb i.behind count b)

none_here : (p k first count : ℕ) (is : List Initial) → suc p ≤ first → are_behind first count is ≡ true → standing p k is ≡ []
none_here p k first count [] l h = refl
none_here p k first count (i ∷ is) l h =
    let s = sorted first count i is h in
    let after = s.after in
    stands_on p k i is (apart_above i.behind p (omega (arith, l, after))) ∙ none_here p (suc k) i.behind count is (omega (arith, l, after)) s.rest

-- what stands at place n, where process p is the next and initial process k
abbrev At : (p k : ℕ) → List Initial → ℕ → D.AnyProcess → Type 0
At p k is n (OfProcess q y) = (p ≤ q) × (p + n ≡ q + starts_before is q)
At p k is n (OfInitial j i) = p + n + k ≡ i.behind + j

abbrev Each : ℕ → List Process → ℕ → List Initial → Type 0
Each p ps k is = (n : ℕ) (x : D.AnyProcess) → slice_get (ordered p ps k is) n ≡ Some x → At p k is n x

alone : (p : ℕ) (ps : List Process) (k : ℕ) → Each p ps k []
alone p [] k n x at = absurd (let z : ⊥ = cc in z)
alone p (y ∷ ps) k zero x at = let is : OfProcess p y ≡ x = cc in subst (At p k [] 0) is (omega arith, refl)
alone p (y ∷ ps) k (suc n) x at = next x (alone (suc p) ps k n x at)
  where
    next : (x : D.AnyProcess) → At (suc p) k [] n x → At p k [] (suc n) x
    next (OfProcess q y) h = (omega (arith, h.0), omega (arith, h.1))
    next (OfInitial j i) h = omega (arith, h)

abbrev Sort : ℕ → List Process → List Initial → Type 0
Sort p ps is = are_behind p (p + length ps) is ≡ true

-- the first initial process stands here
here : (i : Initial) (is : List Initial) (p : ℕ) (ps : List Process) (k : ℕ) → (i.behind == p) ≡ true → Each p ps (suc k) is → Each p ps k (i ∷ is)
here i is p ps k e rest n x at = go n (subst (λ (xs : List D.AnyProcess). slice_get xs n ≡ Some x) (first_is p ps k i is e) at)
  where
    same : i.behind ≡ p
    same = eqb-true i.behind p e

    more : (n : ℕ) (x : D.AnyProcess) → At p (suc k) is n x → At p k (i ∷ is) (suc n) x
    more n (OfProcess q y) h =
        let l = h.0 in
        let m = h.1 in
        let s = goes i is q (omega (arith, same, l)) in
        (l, omega (arith, m, s))
    more n (OfInitial j o) h = omega (arith, h)

    go : (n : ℕ) → slice_get (OfInitial k i ∷ ordered p ps (suc k) is) n ≡ Some x → At p k (i ∷ is) n x
    go zero h = let it : OfInitial k i ≡ x = cc in subst (At p k (i ∷ is) 0) it (omega (arith, same))
    go (suc m) h = more m x (rest m x h)

-- a process stands before it
before : (i : Initial) (is : List Initial) (p : ℕ) (y : Process) (ps : List Process) (k : ℕ) → suc p ≤ i.behind → are_behind i.behind (p + suc (length ps)) is ≡ true → Each (suc p) ps k (i ∷ is) → Each p (y ∷ ps) k (i ∷ is)
before i is p y ps k l s rest n x at = go n (subst (λ (xs : List D.AnyProcess). slice_get (xs ++ OfProcess p y ∷ ordered (suc p) ps k (i ∷ is)) n ≡ Some x) nothing at)
  where
    nothing : standing p k (i ∷ is) ≡ []
    nothing = stands_on p k i is (apart_above i.behind p l) ∙ none_here p (suc k) i.behind (p + suc (length ps)) is l s

    more : (n : ℕ) (x : D.AnyProcess) → At (suc p) k (i ∷ is) n x → At p k (i ∷ is) (suc n) x
    more n (OfProcess q z) h = let a = h.0 in let m = h.1 in (omega (arith, a), omega (arith, m))
    more n (OfInitial j o) h = omega (arith, h)

    go : (n : ℕ) → slice_get (OfProcess p y ∷ ordered (suc p) ps k (i ∷ is)) n ≡ Some x → At p k (i ∷ is) n x
    go zero h =
        let it : OfProcess p y ≡ x = cc in
        let none = stops i is p l in
        subst (At p k (i ∷ is) 0) it (omega arith, omega (arith, none))
    go (suc m) h = more m x (rest m x h)

by_first : (i : Initial) (is : List Initial) → ((p : ℕ) (ps : List Process) (k : ℕ) → Sort p ps is → Each p ps k is) → (ps : List Process) (p k : ℕ) → Sort p ps (i ∷ is) → Each p ps k (i ∷ is)
by_first i is rest [] p k h = here i is p [] k same (rest p [] (suc k) (subst (λ (n : ℕ). are_behind n (p + 0) is ≡ true) (eqb-true i.behind p same) s.rest))
  where
    s : Sorted p (p + 0) i is
    s = sorted p (p + 0) i is h

    same : (i.behind == p) ≡ true
    same = at (i.behind == p) refl
      where
        at : (c : Bool) → (i.behind == p) ≡ c → (i.behind == p) ≡ true
        at true e = e
        at false e = let a = s.after in let m = s.most in let b = above i.behind p a e in absurd (omega (arith, b, m))
by_first i is rest (y ∷ ps) p k h = at (by_first i is rest ps (suc p) k) (i.behind == p) refl
  where
    count : ℕ
    count = p + suc (length ps)

    s : Sorted p count i is
    s = sorted p count i is h

    moved : count ≡ suc p + length ps
    moved = omega arith

    at : (Sort (suc p) ps (i ∷ is) → Each (suc p) ps k (i ∷ is)) → (c : Bool) → (i.behind == p) ≡ c → Each p (y ∷ ps) k (i ∷ is)
    at on true e = here i is p (y ∷ ps) k e (rest p (y ∷ ps) (suc k) (subst (λ (n : ℕ). are_behind n count is ≡ true) (eqb-true i.behind p e) s.rest))
    at on false e =
        let l = above i.behind p s.after e in
        let again : Sort (suc p) ps (i ∷ is) = subst (λ (n : ℕ). are_behind (suc p) n (i ∷ is) ≡ true) moved (sort (suc p) count i is l s.most s.rest) in
        before i is p y ps k l s.rest (on again)

each : (is : List Initial) (p : ℕ) (ps : List Process) (k : ℕ) → Sort p ps is → Each p ps k is
each [] p ps k h = alone p ps k
each (i ∷ is) p ps k h = by_first i is (each is) ps p k h

pub numbers_are_places : ProcessesInText → InitialsInText → NumbersArePlaces
numbers_are_places processes initials d n x lawful found = go x found
  where
    from_first : length d.processes ≡ 0 + length d.processes
    from_first = omega arith

    in_order : Sort 0 d.processes d.initials
    in_order = subst (λ (count : ℕ). are_behind 0 count d.initials ≡ true) from_first lawful.behind

    all : (x : D.AnyProcess) → slice_get (in_text_order d) n ≡ Some x → At 0 0 d.initials n x
    all x h = each d.initials 0 d.processes 0 in_order n x (subst (λ (xs : List D.AnyProcess). slice_get xs n ≡ Some x) (same_order 0 d.processes d.initials) h)

    go : (x : AnyProcess) → slice_get (text_numbers d) n ≡ Some x → number_of d x ≡ n
    go (any.Process p) h =
        let there = processes d n p h in
        let found = all (OfProcess p there.0) there.1 in
        let e = found.1 in
        sym (has_number d p (starts_before d.initials p) (slice_get_within d.processes p there.0 there.2) refl) ∙ omega (arith, e)
    go (any.Initial k) h =
        let there = initials d n k h in
        let e = all (OfInitial k there.0) there.1 in
        sym (has_start_number d k there.0 there.2) ∙ omega (arith, e)

-- Processes of both kinds in the order of the text.
use Rattle.std.proofs.Common.{◌≡◌, ℕ, zero, suc, ◌+◌, ◌≤◌, Bool, true, false, List, [], ◌∷◌, ◌++◌, map, drop, length, if◌then◌else◌, refl, sym, ap, ◌∙◌, subst, arith, eqb-true, append-nil}
use Rattle.std.specs.Prelude.{Option, Some, None, option_map, slice_get, nat_le, ◌==◌, ◌&&◌}
use Rattle.std.proofs.lemmas.Bool.{leb-true, le-leb}
use Rattle.std.proofs.lemmas.List.{append_assoc, drop_all, drop_more, map-append}
use Rattle.std.proofs.lemmas.Option.{slice_get-map, slice_get_within, get_or_from_slice_get}
use Rattle.vs_design.specs.Designs as D
use Rattle.vs_design.specs.Designs.{OfProcess, OfInitial, standing, text_from, in_text_order}
use Rattle.vs_design.specs.Elaborated.{are_behind}
use Rattle.vs_flat.specs.declared.processes.AnyProcess.{AnyProcess}
use Rattle.vs_flat.specs.declared.processes.AnyProcess.TheVariants as A
use Rattle.vs_flat.specs.TextOrder.{any_of, text_numbers, IsNext}
use Rattle.vs_flat.proofs.Agreeing.{and_both, and_true}

-- ---- each with its number

abbrev Each : (D.AnyProcess → Type 0) → List D.AnyProcess → Type 0
Each P [] = Unit {0}
Each P (x ∷ xs) = P x × Each P xs

each_append : (P : D.AnyProcess → Type 0) (xs ys : List D.AnyProcess) → Each P xs → Each P ys → Each P (xs ++ ys)
each_append P [] ys h k = k
each_append P (x ∷ xs) ys h k = (h.0, each_append P xs ys h.1 k)

each_at : (P : D.AnyProcess → Type 0) (xs : List D.AnyProcess) (n : ℕ) (x : D.AnyProcess) → Each P xs → slice_get xs n ≡ Some x → P x
each_at P [] n x h at = cc
each_at P (y ∷ xs) zero x h at = let is : y ≡ x = cc in subst P is h.0
each_at P (y ∷ xs) (suc n) x h at = each_at P xs n x h.1 at

module _ (d : D.Design) where
  abbrev IsNumbered : D.AnyProcess → Type 0
  IsNumbered (OfProcess p process) = slice_get d.processes p ≡ Some process
  IsNumbered (OfInitial k initial) = slice_get d.initials k ≡ Some initial

  one_numbered : (k : ℕ) (i : D.Initial) (c : Bool) → slice_get d.initials k ≡ Some i → Each IsNumbered (if c then (OfInitial k i ∷ []) else [])
  one_numbered k i true h = (h, tt)
  one_numbered k i false h = tt

  standing_numbered : (p k : ℕ) (is : List D.Initial) → ((j : ℕ) (i : D.Initial) → slice_get is j ≡ Some i → slice_get d.initials (k + j) ≡ Some i) → Each IsNumbered (standing p k is)
  standing_numbered p k [] h = tt
  standing_numbered p k (i ∷ is) h =
      each_append IsNumbered (if i.behind == p then (OfInitial k i ∷ []) else []) (standing p (suc k) is)
      (one_numbered k i (i.behind == p) (subst (λ n. slice_get d.initials n ≡ Some i) (omega arith) (h 0 i refl)))
      (standing_numbered p (suc k) is (λ j x at. subst (λ n. slice_get d.initials n ≡ Some x) (omega arith) (h (suc j) x at)))

  text_numbered : (p : ℕ) (ps : List D.Process) → ((j : ℕ) (x : D.Process) → slice_get ps j ≡ Some x → slice_get d.processes (p + j) ≡ Some x) → Each IsNumbered (text_from p ps d.initials)
  text_numbered p [] h = standing_numbered p 0 d.initials (λ j i at. subst (λ n. slice_get d.initials n ≡ Some i) (omega arith) at)
  text_numbered p (x ∷ ps) h =
      each_append IsNumbered (standing p 0 d.initials) (OfProcess p x ∷ text_from (suc p) ps d.initials) (standing_numbered p 0 d.initials (λ j i at. subst (λ n. slice_get d.initials n ≡ Some i) (omega arith) at))
      (subst (λ n. slice_get d.processes n ≡ Some x) (omega arith) (h 0 x refl), text_numbered (suc p) ps (λ j y at. subst (λ n. slice_get d.processes n ≡ Some y) (omega arith) (h (suc j) y at)))

  numbered : (n : ℕ) (x : D.AnyProcess) → slice_get (in_text_order d) n ≡ Some x → IsNumbered x
  numbered n x at = each_at IsNumbered (in_text_order d) n x (text_numbered 0 d.processes (λ j y h. subst (λ n. slice_get d.processes n ≡ Some y) (omega arith) h)) at

  pub process_in_text : (n p : ℕ) → slice_get (text_numbers d) n ≡ Some (A.Process p) → (process : D.Process) × (slice_get (in_text_order d) n ≡ Some (OfProcess p process)) × (slice_get d.processes p ≡ Some process)
  process_in_text n p h = go (slice_get (in_text_order d) n) refl (sym (slice_get-map any_of (in_text_order d) n) ∙ h)
    where
      go : (o : Option D.AnyProcess) → slice_get (in_text_order d) n ≡ o → option_map any_of o ≡ Some (A.Process p) → (process : D.Process) × (slice_get (in_text_order d) n ≡ Some (OfProcess p process)) × (slice_get d.processes p ≡ Some process)
      go None e is = cc
      go (Some (OfInitial k i)) e is = absurd (let z : ⊥ = cc in z)
      go (Some (OfProcess q x)) e is =
          let same : q ≡ p = cc in
          let found : slice_get (in_text_order d) n ≡ Some (OfProcess p x) = e ∙ ap (λ m. Some (OfProcess m x)) same in
          (x, found, numbered n (OfProcess p x) found)

  pub initial_in_text : (n k : ℕ) → slice_get (text_numbers d) n ≡ Some (A.Initial k) → (initial : D.Initial) × (slice_get (in_text_order d) n ≡ Some (OfInitial k initial)) × (slice_get d.initials k ≡ Some initial)
  initial_in_text n k h = go (slice_get (in_text_order d) n) refl (sym (slice_get-map any_of (in_text_order d) n) ∙ h)
    where
      go : (o : Option D.AnyProcess) → slice_get (in_text_order d) n ≡ o → option_map any_of o ≡ Some (A.Initial k) → (initial : D.Initial) × (slice_get (in_text_order d) n ≡ Some (OfInitial k initial)) × (slice_get d.initials k ≡ Some initial)
      go None e is = cc
      go (Some (OfProcess q x)) e is = absurd (let z : ⊥ = cc in z)
      go (Some (OfInitial j i)) e is =
          let same : j ≡ k = cc in
          let found : slice_get (in_text_order d) n ≡ Some (OfInitial k i) = e ∙ ap (λ m. Some (OfInitial m i)) same in
          (i, found, numbered n (OfInitial k i) found)

-- ---- initial processes at their places

one_more : (k : ℕ) → suc k ≡ k + 1
one_more k = omega arith

next_is : {X : Type 0} (xs : List X) (k : ℕ) (x : X) → slice_get xs k ≡ Some x → drop k xs ≡ x ∷ drop (suc k) xs
next_is xs k x h = drop_more xs k x (slice_get_within xs k x h) ∙ ap (λ y. y ∷ drop (k + 1) xs) (get_or_from_slice_get xs k x x h) ∙ ap (λ n. x ∷ drop n xs) (sym (one_more k))

apart : (m n : ℕ) → suc n ≤ m → (m == n) ≡ false
apart m n h = at (m == n) refl where
  at : (c : Bool) → (m == n) ≡ c → (m == n) ≡ false
  at true e = let k = eqb-true m n e in absurd (omega (arith, h, k))
  at false e = e

below_apart : (m n : ℕ) → suc m ≤ n → (m == n) ≡ false
below_apart m n h = at (m == n) refl where
  at : (c : Bool) → (m == n) ≡ c → (m == n) ≡ false
  at true e = let k = eqb-true m n e in absurd (omega (arith, h, k))
  at false e = e

pub other_than : (m n : ℕ) → (m ≡ n → ⊥) → (m == n) ≡ false
other_than m n h = at (m == n) refl where
  at : (c : Bool) → (m == n) ≡ c → (m == n) ≡ false
  at true e = absurd (h (eqb-true m n e))
  at false e = e

above : (m p : ℕ) → p ≤ m → (m == p) ≡ false → suc p ≤ m
above m p l e = grind arith

stands : (p k : ℕ) (i : D.Initial) (is : List D.Initial) → (i.behind == p) ≡ true → standing p k (i ∷ is) ≡ OfInitial k i ∷ standing p (suc k) is
stands p k i is e = ap (λ (c : Bool). (if c then (OfInitial k i ∷ []) else []) ++ standing p (suc k) is) e

stands_on : (p k : ℕ) (i : D.Initial) (is : List D.Initial) → (i.behind == p) ≡ false → standing p k (i ∷ is) ≡ standing p (suc k) is
stands_on p k i is e = ap (λ (c : Bool). (if c then (OfInitial k i ∷ []) else []) ++ standing p (suc k) is) e

record Behind (first count : ℕ) (i : D.Initial) (is : List D.Initial) : Type 0 where
  after : first ≤ i.behind
  most : nat_le i.behind count ≡ true
  rest : are_behind i.behind count is ≡ true

behind_is : (first count : ℕ) (i : D.Initial) (is : List D.Initial) → are_behind first count (i ∷ is) ≡ true → Behind first count i is
behind_is first count i is h =
    let a = and_both (nat_le first i.behind && nat_le i.behind count) (are_behind i.behind count is) h in
    let b = and_both (nat_le first i.behind) (nat_le i.behind count) a.0 in
    record { after = leb-true first i.behind b.0; most = b.1; rest = a.1 }

is_behind : (first count : ℕ) (i : D.Initial) (is : List D.Initial) → Behind first count i is → are_behind first count (i ∷ is) ≡ true
is_behind first count i is b =
    and_true (nat_le first i.behind && nat_le i.behind count) (are_behind i.behind count is) (and_true (nat_le first i.behind) (nat_le i.behind count) (le-leb first i.behind b.after) b.most) b.rest

-- none stands here where all stand further on
none_stands : (p first count k : ℕ) (is : List D.Initial) → suc p ≤ first → are_behind first count is ≡ true → standing p k is ≡ []
none_stands p first count k [] l h = refl
none_stands p first count k (i ∷ is) l h =
    let b = behind_is first count i is h in
    let m = b.after in
    stands_on p k i is (apart i.behind p (omega (arith, l, m))) ∙ none_stands p i.behind count (suc k) is (omega (arith, l, m)) b.rest

-- ---- those behind p processes, as they are added up to number k

pub record Added (d : D.Design) (p k : ℕ) (old items : List AnyProcess) : Type 0 where
  pub told : items ++ map any_of (standing p k (drop k d.initials)) ≡ old ++ map any_of (standing p 0 d.initials)
  pub behind : are_behind p (length d.processes) (drop k d.initials) ≡ true
  pub later : (q : ℕ) → suc p ≤ q → standing q 0 d.initials ≡ standing q k (drop k d.initials)

module _ (d : D.Design) (p : ℕ) where
  pub added_first : (k : ℕ) (old : List AnyProcess) → IsNext d p k → Added d p k old old
  added_first k old h = record { told = ap (λ xs. old ++ map any_of xs) (sym (h.1 p (omega arith))); behind = h.0; later = λ q l. h.1 q (omega (arith, l)) }

  pub added_more : (k : ℕ) (i : D.Initial) (old items after : List AnyProcess) → slice_get d.initials k ≡ Some i → (i.behind == p) ≡ true → after ≡ items ++ A.Initial k ∷ [] → Added d p k old items → Added d p (k + 1) old after
  added_more k i old items after at e is s = subst (λ n. Added d p n old after) (one_more k) now
    where
      rest : drop k d.initials ≡ i ∷ drop (suc k) d.initials
      rest = next_is d.initials k i at

      here : i.behind ≡ p
      here = eqb-true i.behind p e

      more : Behind p (length d.processes) i (drop (suc k) d.initials)
      more = behind_is p (length d.processes) i (drop (suc k) d.initials) (subst (λ xs. are_behind p (length d.processes) xs ≡ true) rest s.behind)

      now : Added d p (suc k) old after
      now = record {
        told =
            ap (λ xs. xs ++ map any_of (standing p (suc k) (drop (suc k) d.initials))) is
            ∙ append_assoc items (A.Initial k ∷ []) (map any_of (standing p (suc k) (drop (suc k) d.initials)))
            ∙ ap (λ xs. items ++ map any_of xs) (sym (ap (standing p k) rest ∙ stands p k i (drop (suc k) d.initials) e))
            ∙ s.told;
        behind = subst (λ m. are_behind m (length d.processes) (drop (suc k) d.initials) ≡ true) here more.rest;
        later = λ q l. s.later q l ∙ ap (standing q k) rest ∙ stands_on q k i (drop (suc k) d.initials) (below_apart i.behind q (omega (arith, here, l)));
      }

  all_added : (k : ℕ) (old items : List AnyProcess) → standing p k (drop k d.initials) ≡ [] → Added d p k old items → items ≡ old ++ map any_of (standing p 0 d.initials)
  all_added k old items none s = sym (append-nil items) ∙ ap (λ xs. items ++ map any_of xs) (sym none) ∙ s.told

  -- the next one stands further on
  module _ (k : ℕ) (i : D.Initial) (at : slice_get d.initials k ≡ Some i) (e : (i.behind == p) ≡ false) (old items : List AnyProcess) (s : Added d p k old items) where
    behind_next : are_behind (suc p) (length d.processes) (drop k d.initials) ≡ true
    behind_next =
        let rest = next_is d.initials k i at in
        let b = behind_is p (length d.processes) i (drop (suc k) d.initials) (subst (λ xs. are_behind p (length d.processes) xs ≡ true) rest s.behind) in
        subst (λ xs. are_behind (suc p) (length d.processes) xs ≡ true) (sym rest)
        (is_behind (suc p) (length d.processes) i (drop (suc k) d.initials) (record { after = above i.behind p b.after e; most = b.most; rest = b.rest }))

    pub added_here : items ≡ old ++ map any_of (standing p 0 d.initials)
    added_here = all_added k old items (none_stands p (suc p) (length d.processes) k (drop k d.initials) (omega arith) behind_next) s

    pub next_here : IsNext d (p + 1) k
    next_here = subst (λ n. IsNext d n k) (one_more p) (behind_next, s.later)

  -- or there is no next one
  module _ (k count : ℕ) (none : length d.initials ≤ k) (all : length d.initials ≤ count) (old items : List AnyProcess) (s : Added d p k old items) where
    pub added_last : items ≡ old ++ map any_of (standing p 0 d.initials)
    added_last = all_added k old items (ap (standing p k) (drop_all k d.initials none)) s

    pub next_last : IsNext d (p + 1) count
    next_last = subst (λ n. IsNext d n count) (one_more p)
        (ap (are_behind (suc p) (length d.processes)) (drop_all count d.initials all), λ q l. s.later q l ∙ ap (standing q k) (drop_all k d.initials none) ∙ sym (ap (standing q count) (drop_all count d.initials all)))

-- ---- process after process

module _ (d : D.Design) where
  abbrev pub IsToldTo : ℕ → List AnyProcess → Type 0
  IsToldTo p items = items ++ map any_of (text_from p (drop p d.processes) d.initials) ≡ text_numbers d

  pub told_first : (items : List AnyProcess) → items ≡ [] → IsToldTo 0 items
  told_first items is = ap (λ xs. xs ++ text_numbers d) is

  pub next_first : are_behind 0 (length d.processes) d.initials ≡ true → IsNext d 0 0
  next_first h = (h, λ q l. refl)

  pub told_more : (p : ℕ) (x : D.Process) (items after : List AnyProcess) → slice_get d.processes p ≡ Some x → after ≡ items ++ (map any_of (standing p 0 d.initials) ++ A.Process p ∷ []) → IsToldTo p items → IsToldTo (p + 1) after
  told_more p x items after at is told = subst (λ n. IsToldTo n after) (one_more p)
      (ap (λ xs. xs ++ map any_of rest) is
      ∙ append_assoc items (map any_of (standing p 0 d.initials) ++ A.Process p ∷ []) (map any_of rest)
      ∙ ap (λ xs. items ++ xs) (append_assoc (map any_of (standing p 0 d.initials)) (A.Process p ∷ []) (map any_of rest) ∙ sym (map-append any_of (standing p 0 d.initials) (OfProcess p x ∷ rest)))
      ∙ ap (λ ps. items ++ map any_of (text_from p ps d.initials)) (sym (next_is d.processes p x at))
      ∙ told)
    where
      rest : List D.AnyProcess
      rest = text_from (suc p) (drop (suc p) d.processes) d.initials

  pub told_last : (p : ℕ) (items after : List AnyProcess) → length d.processes ≤ p → after ≡ items ++ map any_of (standing p 0 d.initials) → IsToldTo p items → after ≡ text_numbers d
  told_last p items after none is told = is ∙ ap (λ ps. items ++ map any_of (text_from p ps d.initials)) (sym (drop_all p d.processes none)) ∙ told

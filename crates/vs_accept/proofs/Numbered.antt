-- The numbers of processes in the text, and the tokens at which they begin.
use Rattle.std.proofs.Common.{◌≡◌, ℕ, zero, suc, ◌+◌, ◌≤◌, ◌<◌, Bool, true, false, List, [], ◌∷◌, drop, length, if◌then◌else◌, refl, sym, ap, ◌∙◌, subst, arith}
use Rattle.std.specs.Prelude.{Some, None, Option, slice_get, nat_le, ◌&&◌}
use Rattle.std.proofs.lemmas.Bool.{leb-true, le-leb, lt-leb, lt-ltb, le-ltb, and_parts}
use Rattle.std.proofs.lemmas.List.{drop_all, drop_more}
use Rattle.std.proofs.lemmas.Option.{slice_get_within, get_or_from_slice_get}
use Rattle.vs_design.specs.Expressions as E
use Rattle.vs_design.specs.Statements as T
use Rattle.vs_design.specs.Designs.{Design, Process, Initial, process_place}
use Rattle.vs_design.specs.Elaborated.{are_behind}
use Rattle.vs_flat.specs.declared.processes.AnyProcess.TheVariants as any
use Rattle.vs_flat.specs.declared.processes.Kind.{Kind}
use Rattle.vs_flat.specs.declared.processes.Kind.TheVariants as K
use Rattle.vs_flat.specs.DesignOf.{kind_of}
use Rattle.vs_accept.specs.Numbers.{starts_before, number_of, process_number, begin_of}

next_is : {X : Type 0} (xs : List X) (k : ℕ) (x : X) → slice_get xs k ≡ Some x → drop k xs ≡ x ∷ drop (k + 1) xs
next_is xs k x h = drop_more xs k x (slice_get_within xs k x h) ∙ ap (λ y. y ∷ drop (k + 1) xs) (get_or_from_slice_get xs k x x h)

-- ---- how many stand before a process

-- so far all of them do
abbrev pub AllBefore : List Initial → (p k : ℕ) → Type 0
AllBefore is p k = starts_before is p ≡ k + starts_before (drop k is) p

pub stops : (i : Initial) (is : List Initial) (p : ℕ) → suc p ≤ i.behind → starts_before (i ∷ is) p ≡ 0
stops i is p h = ap (λ (c : Bool). if c then suc (starts_before is p) else 0) (lt-leb i.behind p h)

pub goes : (i : Initial) (is : List Initial) (p : ℕ) → i.behind ≤ p → starts_before (i ∷ is) p ≡ suc (starts_before is p)
goes i is p h = ap (λ (c : Bool). if c then suc (starts_before is p) else 0) (le-leb i.behind p h)

pub stopped : (is : List Initial) (p k : ℕ) (i : Initial) → slice_get is k ≡ Some i → suc p ≤ i.behind → AllBefore is p k → k ≡ starts_before is p
stopped is p k i at h so_far =
    let none : starts_before (drop k is) p ≡ 0 = ap (λ (xs : List Initial). starts_before xs p) (next_is is k i at) ∙ stops i (drop (k + 1) is) p h in
    let s : starts_before is p ≡ k + starts_before (drop k is) p = so_far in
    omega (arith, none, s)

pub went : (is : List Initial) (p k : ℕ) (i : Initial) → slice_get is k ≡ Some i → i.behind ≤ p → AllBefore is p k → AllBefore is p (k + 1)
went is p k i at h so_far =
    let more : starts_before (drop k is) p ≡ suc (starts_before (drop (k + 1) is) p) = ap (λ (xs : List Initial). starts_before xs p) (next_is is k i at) ∙ goes i (drop (k + 1) is) p h in
    let s : starts_before is p ≡ k + starts_before (drop k is) p = so_far in
    omega (arith, more, s)

few : (is : List Initial) (p : ℕ) → starts_before is p ≤ length is
few [] p = omega arith
few (i ∷ is) p = one_more (nat_le i.behind p) (few is p)
  where
    one_more : (c : Bool) → starts_before is p ≤ length is → (if c then suc (starts_before is p) else 0) ≤ suc (length is)
    one_more true h = omega (arith, h)
    one_more false h = omega arith

pub all_went : (is : List Initial) (p k count : ℕ) → length is ≡ count → count ≤ k → AllBefore is p k → count ≡ starts_before is p
all_went is p k count same h so_far =
    let none : starts_before (drop k is) p ≡ 0 = ap (λ (xs : List Initial). starts_before xs p) (drop_all k is (omega (arith, same, h))) in
    let most = few is p in
    let s : starts_before is p ≡ k + starts_before (drop k is) p = so_far in
    omega (arith, same, h, none, s, most)

-- ---- numbers

pub has_number : (d : Design) (p c : ℕ) → p < length d.processes → c ≡ starts_before d.initials p → p + c ≡ process_number d p
has_number d p c h is = ap (λ (n : ℕ). p + n) is ∙ sym (ap (λ (b : Bool). if b then p + starts_before d.initials p else p) (lt-ltb p (length d.processes) h))

pub has_none : (d : Design) (p : ℕ) → length d.processes ≤ p → p ≡ process_number d p
has_none d p h = sym (ap (λ (b : Bool). if b then p + starts_before d.initials p else p) (le-ltb p (length d.processes) h))

no_entry : {X : Type 0} (xs : List X) (k : ℕ) → length xs ≤ k → slice_get xs k ≡ None
no_entry [] k h = refl
no_entry (x ∷ xs) zero h = absurd (omega (arith, h))
no_entry (x ∷ xs) (suc k) h = no_entry xs k (omega (arith, h))

pub has_start_number : (d : Design) (k : ℕ) (i : Initial) → slice_get d.initials k ≡ Some i → i.behind + k ≡ number_of d (any.Initial k)
has_start_number d k i h = sym (ap (λ (o : Option Initial). elim o [ None ↦ k | Some i ↦ i.behind + k ]) h)

pub has_no_start : (d : Design) (k : ℕ) → length d.initials ≤ k → k ≡ number_of d (any.Initial k)
has_no_start d k h = sym (ap (λ (o : Option Initial). elim o [ None ↦ k | Some i ↦ i.behind + k ]) (no_entry d.initials k h))

-- an initial process stands behind no more processes than there are
pub behind_few : (first count : ℕ) (is : List Initial) (k : ℕ) (i : Initial) → are_behind first count is ≡ true → slice_get is k ≡ Some i → i.behind ≤ count
behind_few first count [] k i h at = absurd (let z : ⊥ = cc in z)
behind_few first count (x ∷ is) zero i h at =
    let is_it : x ≡ i = cc in
    let b = and_parts (nat_le first x.behind) (nat_le x.behind count) (and_parts (nat_le first x.behind && nat_le x.behind count) (are_behind x.behind count is) h).0 in
    subst (λ (y : Initial). y.behind ≤ count) is_it (leb-true x.behind count b.1)
behind_few first count (x ∷ is) (suc k) i h at = behind_few x.behind count is k i (and_parts (nat_le first x.behind && nat_le x.behind count) (are_behind x.behind count is) h).1 at

-- ---- where they begin

pub place_is : (signal : ℕ → E.Signal) (tree : ℕ → E.Expression) (statement : ℕ → T.Statement) (place : ℕ) (k : Kind) → process_place (kind_of signal tree statement place k) ≡ place
place_is signal tree statement place (K.Assign target e port) = refl
place_is signal tree statement place (K.Block star events body) = refl

pub begins : (d : Design) (p : ℕ) (x : Process) → slice_get d.processes p ≡ Some x → process_place x ≡ begin_of d (any.Process p)
begins d p x h = sym (ap (λ (o : Option Process). elim o [ None ↦ 0 | Some x ↦ process_place x ]) h)

pub begins_nowhere : (d : Design) (p : ℕ) → length d.processes ≤ p → 0 ≡ begin_of d (any.Process p)
begins_nowhere d p h = sym (ap (λ (o : Option Process). elim o [ None ↦ 0 | Some x ↦ process_place x ]) (no_entry d.processes p h))

pub start_begins : (d : Design) (k : ℕ) (i : Initial) → slice_get d.initials k ≡ Some i → i.place ≡ begin_of d (any.Initial k)
start_begins d k i h = sym (ap (λ (o : Option Initial). elim o [ None ↦ 0 | Some i ↦ i.place ]) h)

pub start_begins_nowhere : (d : Design) (k : ℕ) → length d.initials ≤ k → 0 ≡ begin_of d (any.Initial k)
start_begins_nowhere d k h = sym (ap (λ (o : Option Initial). elim o [ None ↦ 0 | Some i ↦ i.place ]) (no_entry d.initials k h))

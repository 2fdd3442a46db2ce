-- Whether initial processes alone write some bits.
use Rattle.std.proofs.Common.{◌≡◌, ℕ, zero, suc, ◌+◌, ◌<◌, ◌≤◌, Bool, true, false, not, ◌||◌, ◌==◌, cond, List, [], ◌∷◌, filter, take, replicate, length, get_or, eq-eqb, refl, sym, ap, ap₂, ◌∙◌, arith, Some}
use Rattle.std.specs.Prelude.{slice_get}
use Rattle.std.specs.List.{list_any, All}
use Rattle.std.proofs.lemmas.List.{length-replicate, take_all}
use Rattle.std.proofs.lemmas.List.Folds.{list_any-append}
use Rattle.vs_design.specs.Designs.{Process, Initial, Design, bit_count}
use Rattle.vs_design.specs.Elaborated.{IsLawfulDesign}
use Rattle.vs_design.specs.Footprints.{contains, writes_of, statement_bits}
use Rattle.vs_design.specs.Initials.{initial_bits}
use Rattle.vs_design.specs.RefusalLaws.{is_some_of}
use Rattle.vs_design.specs.Rules.{written_bits}
use Rattle.vs_reads.specs.Footprint.{Footprint, footprints_of, writes_at}
use Rattle.vs_reads.specs.Laws.{EachHasItsBits}
use Rattle.vs_queue.specs.First.{flag_at}
use Rattle.vs_queue.specs.Initially.{is_unflagged}
use Rattle.vs_queue.specs.Spare.{has_keeper}
use Rattle.vs_queue.proofs.Flags.{none_set, any_more}
use Rattle.vs_queue.proofs.Listening.{process_at}

-- ---- bits below a count

or_true : (a : Bool) → (a || true) ≡ true
or_true true = refl
or_true false = refl

or_assoc : (a b c : Bool) → ((a || b) || c) ≡ (a || (b || c))
or_assoc true b c = refl
or_assoc false b c = refl

member : (xs : List ℕ) (k d : ℕ) → k < length xs → contains xs (get_or xs k d) ≡ true
member [] k d l = absurd (omega (arith, l))
member (x ∷ xs) zero d l = ap (λ c. c || contains xs x) (eq-eqb x x refl)
member (x ∷ xs) (suc k) d l = ap (λ c. (get_or xs k d == x) || c) (member xs k d (omega (arith, l))) ∙ or_true (get_or xs k d == x)

pub all_below : (bits : List ℕ) (n : ℕ) → ((b : ℕ) → contains bits b ≡ true → b < n) → All (λ b. b < n) bits
all_below bits n h k d l = h (get_or bits k d) (member bits k d l)

-- ---- what a process writes

module _ (law : EachHasItsBits) (d : Design) (lawful : IsLawfulDesign d) (fs : List Footprint) (same : fs ≡ footprints_of d) (p : ℕ) (l : p < length d.processes) where
  pub footprint_below : (b : ℕ) → contains (writes_at fs p) b ≡ true → b < bit_count d
  footprint_below b h = let x = process_at d.processes p l in (law d lawful p x.0 x.1).writes.below b (ap (λ (gs : List Footprint). contains (writes_at gs p) b) (sym same) ∙ h)

module _ (law : EachHasItsBits) (d : Design) (lawful : IsLawfulDesign d) (fs : List Footprint) (same : fs ≡ footprints_of d) (p : ℕ) (x : Process) (at : slice_get d.processes p ≡ Some x) where
  pub footprint_same : (b : ℕ) → contains (writes_at fs p) b ≡ contains (writes_of x) b
  footprint_same b = ap (λ (gs : List Footprint). contains (writes_at gs p) b) same ∙ (law d lawful p x at).writes.same b

-- ---- flags of the bits that processes write

pub record AreWritten (ps : List Process) (flags : List Bool) (count k : ℕ) : Type 0 where
  pub long : length flags ≡ count
  pub told : (b : ℕ) → flag_at flags b ≡ list_any (λ x. contains (writes_of x) b) (take k ps)

pub none_written : (ps : List Process) (flags : List Bool) (count n : ℕ) → flags ≡ replicate n false → n ≡ count → AreWritten ps flags count 0
none_written ps flags count n is same = record { long = ap length is ∙ length-replicate n false ∙ same; told = λ b. ap (λ fs. flag_at fs b) is ∙ none_set n b }

pub written_more : (ps : List Process) (flags now : List Bool) (count k : ℕ) → k < length ps → length now ≡ length flags → ((x : Process) → slice_get ps k ≡ Some x → (b : ℕ) → flag_at now b ≡ (flag_at flags b || contains (writes_of x) b)) → AreWritten ps flags count k → AreWritten ps now count (k + 1)
written_more ps flags now count k l long each r =
    let x = process_at ps k l in
    record { long = long ∙ r.long; told = λ b. each x.0 x.1 b ∙ ap (λ c. c || contains (writes_of x.0) b) (r.told b) ∙ sym (any_more (λ y. contains (writes_of y) b) ps k x.0 x.1) }

written_any : (ps : List Process) (b : ℕ) → list_any (λ x. contains (writes_of x) b) ps ≡ contains (written_bits ps) b
written_any [] b = refl
written_any (x ∷ ps) b = ap (λ c. contains (writes_of x) b || c) (written_any ps b) ∙ sym (list_any-append (λ c. b == c) (writes_of x) (written_bits ps))

pub written_all : (ps : List Process) (flags : List Bool) (count k : ℕ) → length ps ≤ k → AreWritten ps flags count k → (b : ℕ) → flag_at flags b ≡ contains (written_bits ps) b
written_all ps flags count k l r b = r.told b ∙ ap (λ xs. list_any (λ x. contains (writes_of x) b) xs) (take_all k ps l) ∙ written_any ps b

-- ---- whether an initial process writes a bit that no process writes

abbrev pub writes_alone : Design → Initial → Bool
writes_alone d i = list_any (λ b. not (contains (written_bits d.processes) b)) (statement_bits i.statement)

any_same : (f g : ℕ → Bool) (xs : List ℕ) → ((b : ℕ) → f b ≡ g b) → list_any f xs ≡ list_any g xs
any_same f g [] h = refl
any_same f g (x ∷ xs) h = ap₂ ◌||◌ (h x) (any_same f g xs h)

pub alone_is : (d : Design) (flags : List Bool) (bits : List ℕ) (i : Initial) → ((b : ℕ) → flag_at flags b ≡ contains (written_bits d.processes) b) → bits ≡ statement_bits i.statement → list_any (is_unflagged flags) bits ≡ writes_alone d i
alone_is d flags bits i told is =
    any_same (is_unflagged flags) (λ b. not (contains (written_bits d.processes) b)) bits (λ b. ap not (told b)) ∙ ap (list_any (λ b. not (contains (written_bits d.processes) b))) is

some_filter : (f : ℕ → Bool) (xs : List ℕ) → is_some_of (filter f xs) ≡ list_any f xs
some_filter f [] = refl
some_filter f (x ∷ xs) = go (some_filter f xs) (f x)
  where
    go : is_some_of (filter f xs) ≡ list_any f xs → (c : Bool) → is_some_of (cond c (x ∷ filter f xs) (filter f xs)) ≡ (c || list_any f xs)
    go later true = refl
    go later false = later

any_initial : (f : ℕ → Bool) (is : List Initial) → list_any f (initial_bits is) ≡ list_any (λ (i : Initial). list_any f (statement_bits i.statement)) is
any_initial f [] = refl
any_initial f (i ∷ is) = list_any-append f (statement_bits i.statement) (initial_bits is) ∙ ap (λ c. list_any f (statement_bits i.statement) || c) (any_initial f is)

keeper_test : (d : Design) → has_keeper d ≡ list_any (writes_alone d) d.initials
keeper_test d = let f = λ (b : ℕ). not (contains (written_bits d.processes) b) in some_filter f (initial_bits d.initials) ∙ any_initial f d.initials

any_at : {A : Type 0} (f : A → Bool) (xs : List A) (k : ℕ) (x : A) → slice_get xs k ≡ Some x → f x ≡ true → list_any f xs ≡ true
any_at f [] k x at h = cc
any_at f (y ∷ ys) zero x at h = let same : y ≡ x = cc in ap (λ z. f z || list_any f ys) same ∙ ap (λ c. c || list_any f ys) h
any_at f (y ∷ ys) (suc k) x at h = ap (λ c. f y || c) (any_at f ys k x at h) ∙ or_true (f y)

pub one_alone : (d : Design) (k : ℕ) → k < length d.initials → ((i : Initial) → slice_get d.initials k ≡ Some i → writes_alone d i ≡ true) → true ≡ has_keeper d
one_alone d k l h = let i = process_at d.initials k l in sym (keeper_test d ∙ any_at (writes_alone d) d.initials k i.0 i.1 (h i.0 i.1))

pub none_alone : (d : Design) (k : ℕ) → k < length d.initials → ((i : Initial) → slice_get d.initials k ≡ Some i → writes_alone d i ≡ false) → list_any (writes_alone d) (take k d.initials) ≡ false → list_any (writes_alone d) (take (k + 1) d.initials) ≡ false
none_alone d k l h so_far = let i = process_at d.initials k l in any_more (writes_alone d) d.initials k i.0 i.1 ∙ ap₂ ◌||◌ so_far (h i.0 i.1)

pub all_accompanied : (d : Design) (k : ℕ) → length d.initials ≤ k → list_any (writes_alone d) (take k d.initials) ≡ false → false ≡ has_keeper d
all_accompanied d k l h = sym (keeper_test d ∙ ap (list_any (writes_alone d)) (sym (take_all k d.initials l)) ∙ h)

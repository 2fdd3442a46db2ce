-- A design is accepted exactly where nothing refuses it.
use Rattle.std.proofs.Common.{◌≡◌, ℕ, suc, ◌≤◌, Bool, true, false, List, [], ◌∷◌, ◌&&◌, not, ap, if◌then◌else◌, refl, sym, subst, arith, nat_lt, Option, Some, None}
use Rattle.std.specs.Prelude.{◌+◌, ◌<◌, nat_le, option_map, sum_by}
use Rattle.std.specs.List.{list_any, list_all}
use Rattle.vs_design.specs.Expressions.{Signal}
use Rattle.vs_design.specs.Designs.{Process, process_place, Initial, Design, AnyProcess, OfProcess, OfInitial, in_text_order}
use Rattle.vs_design.specs.Fits.{fits_process, fits_initial}
use Rattle.vs_design.specs.Elaborated.{is_formed_process, is_formed_initial, IsLawfulDesign}
use Rattle.vs_design.specs.Sizes.{awake_size, sleeper_weight, size}
use Rattle.vs_design.specs.Rules.{function_latches, mixed_assigns, missing_bits, latches}
use Rattle.vs_design.specs.Initials.{has_other_start}
use Rattle.vs_design.specs.Clocks.{clock_inputs, clock_bits, clock_nets, root_of, reads_clock, has_other_clock}
use Rattle.vs_design.specs.Resets.{has_other_form}
use Rattle.vs_design.specs.Levels.{level_order}
use Rattle.vs_design.specs.Races.{race_bits, is_none, race_free}
use Rattle.vs_design.specs.TimeZero.{families, is_uncertain}
use Rattle.vs_design.specs.Accepted.{is_empty, IsAcceptedDesign}
use Rattle.vs_design.specs.Refusals.{least, otherwise, first_found, first_in, where_true, WidthRefusal, TooWide, Division, TooLarge, wide_at, divisions_at, earlier, judged_size, told_size, too_large, FunctionLatch, InitialForm, MixedAssign, Sensitivity, Latch, signal_of, block_refusal_of, block_refusal_at, ClockRead, NotTheClock, ResetForm, clock_refusal_by, Race, race_refusal_of, TimeZero, zero_refusal_by, IsUnrefused}
use Rattle.vs_design.specs.Laws.{AcceptedExactly}
use Rattle.vs_design.proofs.Lists.{and_both, or_false, or_neither}
use Rattle.vs_design.proofs.Drivers.{empty_is}
use Rattle.vs_design.proofs.WidthExact.{and_true, process_clear, wide_none, divisions_none, initial_clear, initial_narrow, initial_undivided}
use Rattle.vs_design.proofs.Least.{least_none, none_least}
use Rattle.vs_design.proofs.TextOrder.{by_sort, pass_in_text, processes_pass, initials_pass}
use Rattle.vs_design.proofs.Sharing.{unshared, none_shared}

-- ---- what is found

pub otherwise_none : {A : Type 0} (a b : Option A) → otherwise a b ≡ None → (a ≡ None) × (b ≡ None)
otherwise_none None b h = (refl, h)
otherwise_none (Some x) b h = cc

pub none_otherwise : {A : Type 0} (a b : Option A) → a ≡ None → b ≡ None → otherwise a b ≡ None
none_otherwise None b h k = k
none_otherwise (Some x) b h k = cc

-- nothing is found exactly where no process breaks the rule
pub any_none : {A : Type 0} (find : ℕ → Process → Option A) (test : Process → Bool) (k : ℕ) (ps : List Process) → ((p : ℕ) (x : Process) → find p x ≡ None → test x ≡ false) → first_found find k ps ≡ None → list_any test ps ≡ false
any_none find test k [] f h = refl
any_none find test k (x ∷ ps) f h =
    let p = otherwise_none (find k x) (first_found find (suc k) ps) h in
    or_false _ _ (f k x p.0) (any_none find test (suc k) ps f p.1)

none_any : {A : Type 0} (find : ℕ → Process → Option A) (test : Process → Bool) (k : ℕ) (ps : List Process) → ((p : ℕ) (x : Process) → test x ≡ false → find p x ≡ None) → list_any test ps ≡ false → first_found find k ps ≡ None
none_any find test k [] f h = refl
none_any find test k (x ∷ ps) f h =
    let p = or_neither (test x) (list_any test ps) h in
    none_otherwise (find k x) (first_found find (suc k) ps) (f k x p.0) (none_any find test (suc k) ps f p.1)

-- in the order of the text, with what else holds of each
found_in_none : {A : Type 0} (find : AnyProcess → Option A) (holds test : AnyProcess → Bool) (xs : List AnyProcess) → ((x : AnyProcess) → holds x ≡ true → find x ≡ None → test x ≡ true) → list_all holds xs ≡ true → first_in find xs ≡ None → list_all test xs ≡ true
found_in_none find holds test [] f g h = refl
found_in_none find holds test (x ∷ xs) f g h =
    let k = and_both (holds x) (list_all holds xs) g in
    let p = otherwise_none (find x) (first_in find xs) h in
    and_true _ _ (f x k.0 p.0) (found_in_none find holds test xs f k.1 p.1)

none_found_in : {A : Type 0} (find : AnyProcess → Option A) (test : AnyProcess → Bool) (xs : List AnyProcess) → ((x : AnyProcess) → test x ≡ true → find x ≡ None) → list_all test xs ≡ true → first_in find xs ≡ None
none_found_in find test [] f h = refl
none_found_in find test (x ∷ xs) f h =
    let p = and_both (test x) (list_all test xs) h in
    none_otherwise (find x) (first_in find xs) (f x p.0) (none_found_in find test xs f p.1)

pub true_where : {A : Type 0} (b : Bool) (a : A) → where_true b a ≡ None → b ≡ false
true_where true a h = cc
true_where false a h = refl

pub where_false : {A : Type 0} (b : Bool) (a : A) → b ≡ false → where_true b a ≡ None
where_false true a h = cc
where_false false a h = refl

pub mapped_none : {A B : Type 0} (f : A → B) (o : Option A) → option_map f o ≡ None → o ≡ None
mapped_none f None h = refl
mapped_none f (Some x) h = cc

none_mapped : {A B : Type 0} (f : A → B) (o : Option A) → o ≡ None → option_map f o ≡ None
none_mapped f None h = refl
none_mapped f (Some x) h = cc

is_empty_of : (xs : List ℕ) → xs ≡ [] → is_empty xs ≡ true
is_empty_of xs h = rw h refl

-- a list's least is none exactly where it is empty
least_mapped : {A : Type 0} (f : ℕ → A) (xs : List ℕ) → option_map f (least xs) ≡ None → is_empty xs ≡ true
least_mapped f xs h = is_empty_of xs (least_none xs (mapped_none f (least xs) h))

mapped_least : {A : Type 0} (f : ℕ → A) (xs : List ℕ) → is_empty xs ≡ true → option_map f (least xs) ≡ None
mapped_least f xs h = none_mapped f (least xs) (none_least xs (empty_is xs h))

-- ---- lengths and the size

pub earlier_none : (a b : Option ℕ) → earlier a b ≡ None → (a ≡ None) × (b ≡ None)
earlier_none None None h = (refl, refl)
earlier_none None (Some y) h = cc
earlier_none (Some x) None h = cc
earlier_none (Some x) (Some y) h = absurd (go (nat_le x y) h)
  where
    go : (b : Bool) → (if b then Some (TooWide x) else Some (Division y)) ≡ None → ⊥
    go true h = cc
    go false h = cc

pub none_earlier : (a b : Option ℕ) → a ≡ None → b ≡ None → earlier a b ≡ None
none_earlier a b h k = rw (h, k) refl

abbrev pub width_found : AnyProcess → Option WidthRefusal
width_found x = earlier (least (wide_at x)) (least (divisions_at x))

abbrev pub formed_any : Design → AnyProcess → Bool
formed_any d = by_sort (is_formed_process d) (is_formed_initial d)

abbrev pub fits_any : AnyProcess → Bool
fits_any = by_sort fits_process fits_initial

-- what is formed, and of which nothing is found, fits
pub any_clear : (d : Design) (x : AnyProcess) → formed_any d x ≡ true → wide_at x ≡ [] → divisions_at x ≡ [] → fits_any x ≡ true
any_clear d (OfProcess p x) f h k = process_clear d x f h k
any_clear d (OfInitial n i) f h k = initial_clear d i f h k

pub any_narrow : (x : AnyProcess) → fits_any x ≡ true → wide_at x ≡ []
any_narrow (OfProcess p x) h = wide_none x h
any_narrow (OfInitial n i) h = initial_narrow i h

pub any_undivided : (x : AnyProcess) → fits_any x ≡ true → divisions_at x ≡ []
any_undivided (OfProcess p x) h = divisions_none x h
any_undivided (OfInitial n i) h = initial_undivided i h

pub formed_in_text : (d : Design) → IsLawfulDesign d → list_all (formed_any d) (in_text_order d) ≡ true
formed_in_text d l = pass_in_text d l (is_formed_process d) (is_formed_initial d) l.formed l.initials

pub all_fit : (d : Design) → IsLawfulDesign d → first_in width_found (in_text_order d) ≡ None → list_all fits_any (in_text_order d) ≡ true
all_fit d l h = found_in_none width_found (formed_any d) fits_any (in_text_order d)
    (λ x f e. let q = earlier_none (least (wide_at x)) (least (divisions_at x)) e in any_clear d x f (least_none (wide_at x) q.0) (least_none (divisions_at x) q.1))
    (formed_in_text d l) h

fit_all : (d : Design) → IsLawfulDesign d → list_all fits_process d.processes ≡ true → list_all fits_initial d.initials ≡ true → first_in width_found (in_text_order d) ≡ None
fit_all d l h k = none_found_in width_found fits_any (in_text_order d)
    (λ x f. none_earlier _ _ (none_least (wide_at x) (any_narrow x f)) (none_least (divisions_at x) (any_undivided x f)))
    (pass_in_text d l fits_process fits_initial h k)

small_is : (n most : ℕ) → nat_lt most n ≡ false → n ≤ most
small_is n most h = grind arith

is_small : (n most : ℕ) → n ≤ most → nat_lt most n ≡ false
is_small n most h = grind arith

over : (n most : ℕ) → nat_lt most n ≡ true → most < n
over n most h = grind arith

judged : (n k most : ℕ) → ((if nat_lt most n then n else (n + k)) ≤ most → n + k ≤ most) × (n + k ≤ most → (if nat_lt most n then n else (n + k)) ≤ most)
judged n k most = at (nat_lt most n) refl
  where
    at : (t : Bool) → nat_lt most n ≡ t → ((if t then n else (n + k)) ≤ most → n + k ≤ most) × (n + k ≤ most → (if t then n else (n + k)) ≤ most)
    at true e = let l = over n most e in (λ h. absurd (omega (arith, l, h)), λ h. omega (arith, h))
    at false e = (λ h. h, λ h. h)

-- the judged size is over the limit exactly where the whole is
pub judged_small : (d : Design) → judged_size d ≤ 16777216 → size d ≤ 16777216
judged_small d h = (judged (awake_size d) (sum_by (sleeper_weight d) d.processes) 16777216).0 h

pub small_judged : (d : Design) → size d ≤ 16777216 → judged_size d ≤ 16777216
small_judged d h = (judged (awake_size d) (sum_by (sleeper_weight d) d.processes) 16777216).1 h

-- ---- blocks

pub block_clear : (d : Design) (p : ℕ) (x : Process) → block_refusal_of d p x ≡ None → (is_empty (mixed_assigns x) ≡ true) × (is_empty (missing_bits x) ≡ true) × (is_empty (latches d x) ≡ true)
block_clear d p x h =
    let a = otherwise_none (option_map MixedAssign (least (mixed_assigns x))) (otherwise (option_map (λ b. Sensitivity p (signal_of d.signals b) (process_place x)) (least (missing_bits x))) (option_map (λ b. Latch p b (process_place x)) (least (latches d x)))) h in
    let b = otherwise_none (option_map (λ b. Sensitivity p (signal_of d.signals b) (process_place x)) (least (missing_bits x))) (option_map (λ b. Latch p b (process_place x)) (least (latches d x))) a.1 in
    (least_mapped MixedAssign (mixed_assigns x) a.0, least_mapped (λ b. Sensitivity p (signal_of d.signals b) (process_place x)) (missing_bits x) b.0, least_mapped (λ b. Latch p b (process_place x)) (latches d x) b.1)

clear_block : (d : Design) (p : ℕ) (x : Process) → is_empty (mixed_assigns x) ≡ true → is_empty (missing_bits x) ≡ true → is_empty (latches d x) ≡ true → block_refusal_of d p x ≡ None
clear_block d p x h k l =
    none_otherwise _ _ (mapped_least MixedAssign (mixed_assigns x) h)
    (none_otherwise _ _ (mapped_least (λ b. Sensitivity p (signal_of d.signals b) (process_place x)) (missing_bits x) k) (mapped_least (λ b. Latch p b (process_place x)) (latches d x) l))

three : (a b c : Process → Bool) (ps : List Process) → list_all a ps ≡ true → list_all b ps ≡ true → list_all c ps ≡ true → list_all (λ x. a x && b x && c x) ps ≡ true
three a b c [] h k l = refl
three a b c (x ∷ ps) h k l =
    let p = and_both (a x) (list_all a ps) h in
    let q = and_both (b x) (list_all b ps) k in
    let r = and_both (c x) (list_all c ps) l in
    and_true _ _ (and_true _ _ (and_true _ _ p.0 q.0) r.0) (three a b c ps p.1 q.1 r.1)

-- what breaks no rule on blocks
abbrev is_clean : Design → Process → Bool
is_clean d x = is_empty (mixed_assigns x) && is_empty (missing_bits x) && is_empty (latches d x)

abbrev is_clean_start : Initial → Bool
is_clean_start i = not (has_other_start i)

start_clear : (k : ℕ) (i : Initial) → where_true (has_other_start i) (InitialForm k i.place) ≡ None → is_clean_start i ≡ true
start_clear k i h = ap not (true_where (has_other_start i) (InitialForm k i.place) h)

any_clean : (d : Design) (x : AnyProcess) → block_refusal_at d x ≡ None → by_sort (is_clean d) is_clean_start x ≡ true
any_clean d (OfProcess p x) h = let q = block_clear d p x h in and_true _ _ (and_true _ _ q.0 q.1) q.2
any_clean d (OfInitial k i) h = start_clear k i h

clean_any : (d : Design) (x : AnyProcess) → by_sort (is_clean d) is_clean_start x ≡ true → block_refusal_at d x ≡ None
clean_any d (OfProcess p x) f =
    let g = and_both (is_empty (mixed_assigns x) && is_empty (missing_bits x)) (is_empty (latches d x)) f in
    let m = and_both (is_empty (mixed_assigns x)) (is_empty (missing_bits x)) g.0 in clear_block d p x m.0 m.1 g.1
clean_any d (OfInitial k i) f = where_false (has_other_start i) (InitialForm k i.place) (not_true (has_other_start i) f)
  where
    not_true : (c : Bool) → not c ≡ true → c ≡ false
    not_true true h = cc
    not_true false h = refl

not_any : {A : Type 0} (test : A → Bool) (xs : List A) → list_any test xs ≡ false → list_all (λ x. not (test x)) xs ≡ true
not_any test [] h = refl
not_any test (x ∷ xs) h = let p = or_neither (test x) (list_any test xs) h in rw p.0 (not_any test xs p.1)

any_not : {A : Type 0} (test : A → Bool) (xs : List A) → list_all (λ x. not (test x)) xs ≡ true → list_any test xs ≡ false
any_not test [] h = refl
any_not test (x ∷ xs) h = let p = and_both (not (test x)) (list_all (λ x. not (test x)) xs) h in or_false _ _ (not_true (test x) p.0) (any_not test xs p.1)
  where
    not_true : (c : Bool) → not c ≡ true → c ≡ false
    not_true true h = cc
    not_true false h = refl

blocks_clear : (d : Design) → IsLawfulDesign d → list_all (λ x. is_empty (mixed_assigns x)) d.processes ≡ true → list_all (λ x. is_empty (missing_bits x)) d.processes ≡ true → list_all (λ x. is_empty (latches d x)) d.processes ≡ true
    → list_any has_other_start d.initials ≡ false → first_in (block_refusal_at d) (in_text_order d) ≡ None
blocks_clear d lawful h k l n = none_found_in (block_refusal_at d) (by_sort (is_clean d) is_clean_start) (in_text_order d) (clean_any d)
    (pass_in_text d lawful (is_clean d) is_clean_start (three (λ x. is_empty (mixed_assigns x)) (λ x. is_empty (missing_bits x)) (λ x. is_empty (latches d x)) d.processes h k l) (not_any has_other_start d.initials n))

-- and back
record CleanBlocks (d : Design) : Type 0 where
  pub unmixed : list_all (λ x. is_empty (mixed_assigns x)) d.processes ≡ true
  pub sensitive : list_all (λ x. is_empty (missing_bits x)) d.processes ≡ true
  pub no_latch : list_all (λ x. is_empty (latches d x)) d.processes ≡ true
  pub initial_form : list_any has_other_start d.initials ≡ false

clear_blocks : (d : Design) → IsLawfulDesign d → first_in (block_refusal_at d) (in_text_order d) ≡ None → CleanBlocks d
clear_blocks d lawful h =
    let all = found_in_none (block_refusal_at d) (formed_any d) (by_sort (is_clean d) is_clean_start) (in_text_order d) (λ x f e. any_clean d x e) (formed_in_text d lawful) h in
    let ps = processes_pass d lawful (is_clean d) is_clean_start all in
    let parts = three_parts d.processes ps in
    record { unmixed = parts.0; sensitive = parts.1; no_latch = parts.2; initial_form = any_not has_other_start d.initials (initials_pass d lawful (is_clean d) is_clean_start all) }
  where
    three_parts : (ps : List Process) → list_all (is_clean d) ps ≡ true → (list_all (λ x. is_empty (mixed_assigns x)) ps ≡ true) × (list_all (λ x. is_empty (missing_bits x)) ps ≡ true) × (list_all (λ x. is_empty (latches d x)) ps ≡ true)
    three_parts [] h = (refl, refl, refl)
    three_parts (x ∷ ps) h =
        let p = and_both (is_clean d x) (list_all (is_clean d) ps) h in
        let g = and_both (is_empty (mixed_assigns x) && is_empty (missing_bits x)) (is_empty (latches d x)) p.0 in
        let m = and_both (is_empty (mixed_assigns x)) (is_empty (missing_bits x)) g.0 in
        let r = three_parts ps p.1 in
        (and_true _ _ m.0 r.0, and_true _ _ m.1 r.1, and_true _ _ g.1 r.2)

-- ---- races

race_none : (d : Design) (order : List ℕ) (p : ℕ) (x : Process) → race_refusal_of d order p x ≡ None → is_none (race_bits d order p x) ≡ true
race_none d order p x h = go (race_bits d order p x) h
  where
    go : (bs : List ℕ) → option_map (λ b. Race p b (process_place x)) (least bs) ≡ None → is_none bs ≡ true
    go [] e = refl
    go (b ∷ bs) e = cc

none_race : (d : Design) (order : List ℕ) (p : ℕ) (x : Process) → is_none (race_bits d order p x) ≡ true → race_refusal_of d order p x ≡ None
none_race d order p x h = go (race_bits d order p x) h
  where
    go : (bs : List ℕ) → is_none bs ≡ true → option_map (λ b. Race p b (process_place x)) (least bs) ≡ None
    go [] e = refl
    go (b ∷ bs) e = cc

-- nothing is found exactly where there is no race
pub races_clear : (d : Design) (order : List ℕ) (k : ℕ) (ps : List Process) → first_found (race_refusal_of d order) k ps ≡ None → race_free d order k ps ≡ true
races_clear d order k [] h = refl
races_clear d order k (x ∷ ps) h =
    let g = otherwise_none (race_refusal_of d order k x) (first_found (race_refusal_of d order) (suc k) ps) h in
    and_true _ _ (race_none d order k x g.0) (races_clear d order (suc k) ps g.1)

clear_races : (d : Design) (order : List ℕ) (k : ℕ) (ps : List Process) → race_free d order k ps ≡ true → first_found (race_refusal_of d order) k ps ≡ None
clear_races d order k [] h = refl
clear_races d order k (x ∷ ps) h =
    let g = and_both (is_none (race_bits d order k x)) (race_free d order (suc k) ps) h in
    none_otherwise _ _ (none_race d order k x g.0) (clear_races d order (suc k) ps g.1)

-- ---- the clocks, and time zero

-- what nothing of the clocks and of time zero refuses
record ClockFacts (d : Design) (clocks : List Signal) : Type 0 where
  pub unread : list_any (reads_clock (clock_nets d (clock_bits clocks))) d.processes ≡ false
  pub one : list_any (has_other_clock (clock_nets d (clock_bits clocks)) (root_of d (clock_bits clocks))) d.processes ≡ false
  pub forms : list_any (has_other_form (clock_nets d (clock_bits clocks)) (root_of d (clock_bits clocks))) d.processes ≡ false
  pub awake : list_any (is_uncertain d (families d (clock_bits clocks) (level_order d))) d.processes ≡ false

clock_clear : (d : Design) (o : Option (List Signal)) → clock_refusal_by d o ≡ None → zero_refusal_by d o ≡ None → (clocks : List Signal) × (o ≡ Some clocks) × ClockFacts d clocks
clock_clear d None h k = cc
clock_clear d (Some clocks) h k =
    let a = otherwise_none (first_found (λ p process. where_true (reads_clock (clock_nets d (clock_bits clocks)) process) (ClockRead p (process_place process))) 0 d.processes) (otherwise (first_found (λ p process. where_true (has_other_clock (clock_nets d (clock_bits clocks)) (root_of d (clock_bits clocks)) process) (NotTheClock p (process_place process))) 0 d.processes) (first_found (λ p process. where_true (has_other_form (clock_nets d (clock_bits clocks)) (root_of d (clock_bits clocks)) process) (ResetForm p (process_place process))) 0 d.processes)) h in
    let b = otherwise_none (first_found (λ p process. where_true (has_other_clock (clock_nets d (clock_bits clocks)) (root_of d (clock_bits clocks)) process) (NotTheClock p (process_place process))) 0 d.processes) (first_found (λ p process. where_true (has_other_form (clock_nets d (clock_bits clocks)) (root_of d (clock_bits clocks)) process) (ResetForm p (process_place process))) 0 d.processes) a.1 in (
      clocks,
      refl,
      record {
        unread = any_none (λ p process. where_true (reads_clock (clock_nets d (clock_bits clocks)) process) (ClockRead p (process_place process))) (reads_clock (clock_nets d (clock_bits clocks))) 0 d.processes (λ p x f. true_where (reads_clock (clock_nets d (clock_bits clocks)) x) (ClockRead p (process_place x)) f) a.0;
        one = any_none (λ p process. where_true (has_other_clock (clock_nets d (clock_bits clocks)) (root_of d (clock_bits clocks)) process) (NotTheClock p (process_place process))) (has_other_clock (clock_nets d (clock_bits clocks)) (root_of d (clock_bits clocks))) 0 d.processes (λ p x f. true_where (has_other_clock (clock_nets d (clock_bits clocks)) (root_of d (clock_bits clocks)) x) (NotTheClock p (process_place x)) f) b.0;
        forms = any_none (λ p process. where_true (has_other_form (clock_nets d (clock_bits clocks)) (root_of d (clock_bits clocks)) process) (ResetForm p (process_place process))) (has_other_form (clock_nets d (clock_bits clocks)) (root_of d (clock_bits clocks))) 0 d.processes (λ p x f. true_where (has_other_form (clock_nets d (clock_bits clocks)) (root_of d (clock_bits clocks)) x) (ResetForm p (process_place x)) f) b.1;
        awake = any_none (λ p process. where_true (is_uncertain d (families d (clock_bits clocks) (level_order d)) process) (TimeZero p (process_place process))) (is_uncertain d (families d (clock_bits clocks) (level_order d))) 0 d.processes (λ p x f. true_where (is_uncertain d (families d (clock_bits clocks) (level_order d)) x) (TimeZero p (process_place x)) f) k;
      },
    )

clear_clock : (d : Design) (o : Option (List Signal)) (clocks : List Signal) → o ≡ Some clocks → ClockFacts d clocks → (clock_refusal_by d o ≡ None) × (zero_refusal_by d o ≡ None)
clear_clock d o clocks e f = subst (λ q. (clock_refusal_by d q ≡ None) × (zero_refusal_by d q ≡ None)) (sym e) (
  none_otherwise _ _ (none_any (λ p process. where_true (reads_clock (clock_nets d (clock_bits clocks)) process) (ClockRead p (process_place process))) (reads_clock (clock_nets d (clock_bits clocks))) 0 d.processes (λ p x g. where_false (reads_clock (clock_nets d (clock_bits clocks)) x) (ClockRead p (process_place x)) g) f.unread)
      (none_otherwise _ _ (none_any (λ p process. where_true (has_other_clock (clock_nets d (clock_bits clocks)) (root_of d (clock_bits clocks)) process) (NotTheClock p (process_place process))) (has_other_clock (clock_nets d (clock_bits clocks)) (root_of d (clock_bits clocks))) 0 d.processes (λ p x g. where_false (has_other_clock (clock_nets d (clock_bits clocks)) (root_of d (clock_bits clocks)) x) (NotTheClock p (process_place x)) g) f.one)
      (none_any (λ p process. where_true (has_other_form (clock_nets d (clock_bits clocks)) (root_of d (clock_bits clocks)) process) (ResetForm p (process_place process))) (has_other_form (clock_nets d (clock_bits clocks)) (root_of d (clock_bits clocks))) 0 d.processes (λ p x g. where_false (has_other_form (clock_nets d (clock_bits clocks)) (root_of d (clock_bits clocks)) x) (ResetForm p (process_place x)) g) f.forms)),
  none_any (λ p process. where_true (is_uncertain d (families d (clock_bits clocks) (level_order d)) process) (TimeZero p (process_place process))) (is_uncertain d (families d (clock_bits clocks) (level_order d))) 0 d.processes (λ p x g. where_false (is_uncertain d (families d (clock_bits clocks) (level_order d)) x) (TimeZero p (process_place x)) g) f.awake,
)

-- ---- the law

pub accepted_exactly : AcceptedExactly
accepted_exactly d names lawful = (there, back)
  where
    there : IsAcceptedDesign d names → IsUnrefused d names
    there a =
        let c = clear_clock d (clock_inputs d names) a.clocks a.clocks_found (record { unread = a.clock_unread; one = a.one_clock; forms = a.reset_forms; awake = a.awake }) in
        record {
          widths = none_otherwise _ _ (fit_all d lawful a.fit a.fit_initials) (where_false (nat_lt 16777216 (judged_size d)) (TooLarge (told_size d)) (is_small (judged_size d) 16777216 (small_judged d a.small)));
          blocks = none_otherwise _ _ (mapped_least FunctionLatch (function_latches d.functions) a.no_function_latch) (blocks_clear d lawful a.unmixed a.sensitive a.no_latch a.initial_form);
          drivers = none_shared d a.one_driver a.no_clash;
          clocks = c.0;
          no_cycle = a.no_cycle;
          races = clear_races d (level_order d) 0 d.processes a.no_race;
          zero = c.1;
        }

    back : IsUnrefused d names → IsAcceptedDesign d names
    back u =
        let w = otherwise_none (first_in width_found (in_text_order d)) (too_large d) u.widths in
        let fit = all_fit d lawful w.0 in
        let c = clock_clear d (clock_inputs d names) u.clocks u.zero in
        let b = otherwise_none (option_map FunctionLatch (least (function_latches d.functions))) (first_in (block_refusal_at d) (in_text_order d)) u.blocks in
        let clean = clear_blocks d lawful b.1 in
        let drivers = unshared d lawful u.drivers in
        record {
          lawful = lawful;
          fit = processes_pass d lawful fits_process fits_initial fit;
          fit_initials = initials_pass d lawful fits_process fits_initial fit;
          small = judged_small d (small_is (judged_size d) 16777216 (true_where (nat_lt 16777216 (judged_size d)) (TooLarge (told_size d)) w.1));
          no_function_latch = least_mapped FunctionLatch (function_latches d.functions) b.0;
          initial_form = clean.initial_form;
          unmixed = clean.unmixed;
          sensitive = clean.sensitive;
          no_latch = clean.no_latch;
          one_driver = drivers.0;
          no_clash = drivers.1;
          clocks = c.0;
          clocks_found = c.1;
          clock_unread = c.2.unread;
          one_clock = c.2.one;
          reset_forms = c.2.forms;
          no_cycle = u.no_cycle;
          no_race = races_clear d (level_order d) 0 d.processes u.races;
          awake = c.2.awake;
        }

-- Each refusal says what it should.
use Rattle.std.proofs.Common.{◌≡◌, ℕ, zero, suc, ◌+◌, ◌≤◌, ◌<◌, Bool, true, false, List, [], ◌∷◌, ◌++◌, ◌||◌, ◌&&◌, ◌==◌, not, if◌then◌else◌, ◌⊎◌, inl, inr, refl, sym, ap, ◌∙◌, subst, arith, nat_lt, eqb-true, Option, Some, None, append_assoc}
use Rattle.std.specs.Prelude.{nat_le, slice_get, option_map}
use Rattle.std.specs.List.{list_any, list_all}
use Rattle.std.proofs.lemmas.Bool.{cases_lt}
use Rattle.std.proofs.lemmas.List.Folds.{list_any-append}
use Rattle.vs_design.specs.Expressions.{Signal, signal_length}
use Rattle.vs_design.specs.Values.{bits_of_signal}
use Rattle.vs_design.specs.Designs.{Process, process_place, Initial, Design, is_combinational, AnyProcess, OfProcess, OfInitial, in_text_order}
use Rattle.vs_design.specs.Footprints.{contains, writes_of, all_reads, waits_of, signals_bits, without, wait_signals}
use Rattle.vs_design.specs.Fits.{fits_process, fits_initial}
use Rattle.vs_design.specs.Elaborated.{IsLawfulDesign, is_formed_process, are_numbered, have_bits_from}
use Rattle.vs_design.specs.Sizes.{size}
use Rattle.vs_design.specs.Rules.{function_latches, mixed_assigns, missing_bits, latches}
use Rattle.vs_design.specs.Initials.{has_other_start}
use Rattle.vs_design.specs.Clocks.{clock_inputs, clock_bits, clock_nets, root_of, reads_clock, has_other_clock}
use Rattle.vs_design.specs.Resets.{has_other_form}
use Rattle.vs_design.specs.Levels.{level_order}
use Rattle.vs_design.specs.Races.{race_bits}
use Rattle.vs_design.specs.TimeZero.{families, is_uncertain}
use Rattle.vs_design.specs.Refusals.{least, otherwise, first_found, first_in, where_true, WidthRefusal, TooWide, Division, TooLarge, wide_at, divisions_at, earlier, judged_size, told_size, too_large, BlockRefusal, FunctionLatch, InitialForm, MixedAssign, Sensitivity, Latch, signal_of, block_refusal_of, block_refusal_at, ClockRefusal, NoClock, ClockRead, NotTheClock, ResetForm, clock_refusal_by, RaceRefusal, Race, race_refusal_of, ZeroRefusal, TimeZero, zero_refusal_by}
use Rattle.vs_design.specs.RefusalLaws.{IsLeastOf, IsFirstOf, IsFirstIn, is_unfit, IsWidthRefusal, WidthRefusalIs, is_some_of, breaks_block, IsBlockRefusal, BlockRefusalIs, IsClockRefusal, ClockRefusalIs, IsRaceRefusal, RaceRefusalIs, IsZeroRefusal, ZeroRefusalIs}
use Rattle.vs_design.proofs.Lists.{by_test, and_both, or_neither, or_false, contains-append, contains-left, contains_filter}
use Rattle.vs_design.proofs.Writes.{either_way}
use Rattle.vs_design.proofs.Signals.{count_low, count_high}
use Rattle.vs_design.proofs.Exactly.{earlier_none, none_earlier, any_none, true_where, block_clear, width_found, formed_any, fits_any, any_clear, any_narrow, any_undivided, formed_in_text, all_fit, small_judged}
use Rattle.vs_design.proofs.Least.{least_none, none_least, least_is}
use Rattle.vs_design.proofs.TextOrder.{processes_pass, initials_pass}
use Rattle.vs_design.proofs.Drivers.{empty_is}
use Rattle.vs_design.proofs.Named.{process_bits}

-- ---- the least of a list

no_least : (ns : List ℕ) → least ns ≡ None → ns ≡ []
no_least ns h = least_none ns h

-- ---- the first process

-- where the search at a process finds something exactly where it breaks the rule, what is found first is that of the first such process
record Found_at {A : Type 0} (d : Design) (find : ℕ → Process → Option A) (breaks : Process → Bool) (a : A) : Type 0 where
  pub number : ℕ
  pub process : Process
  pub first : IsFirstOf d breaks number process
  pub found : find number process ≡ Some a

found_first : {A : Type 0} (d : Design) (find : ℕ → Process → Option A) (breaks : Process → Bool) (a : A)
    → ((p : ℕ) (x : Process) → slice_get d.processes p ≡ Some x → find p x ≡ None → breaks x ≡ false) → ((p : ℕ) (x : Process) (a : A) → slice_get d.processes p ≡ Some x → find p x ≡ Some a → breaks x ≡ true)
    → first_found find 0 d.processes ≡ Some a → Found_at d find breaks a
found_first {A} d find breaks a none some h = go 0 d.processes (λ n x e. subst (λ m. slice_get d.processes m ≡ Some x) (omega arith) e) (λ q y l e. absurd (omega arith)) h
  where
    Tail : ℕ → List Process → Type 0
    Tail k ps = (n : ℕ) (x : Process) → slice_get ps n ≡ Some x → slice_get d.processes (k + n) ≡ Some x

    Before : ℕ → Type 0
    Before k = (q : ℕ) (y : Process) → q < k → slice_get d.processes q ≡ Some y → breaks y ≡ false

    here : (k : ℕ) (x : Process) (ps : List Process) → Tail k (x ∷ ps) → slice_get d.processes k ≡ Some x
    here k x ps t = subst (λ m. slice_get d.processes m ≡ Some x) (omega arith) (t 0 x refl)

    next : (k : ℕ) (x : Process) (ps : List Process) → Tail k (x ∷ ps) → Tail (suc k) ps
    next k x ps t n y f = subst (λ m. slice_get d.processes m ≡ Some y) (omega arith) (t (suc n) y f)

    some_is : (y z : Process) → Some y ≡ Some z → y ≡ z
    some_is y z e = cc

    more : (k : ℕ) (x : Process) → slice_get d.processes k ≡ Some x → find k x ≡ None → Before k → Before (suc k)
    more k x i e b q y l f = either (cases_lt q k)
      where
        either : (q < k) ⊎ (k ≤ q) → breaks y ≡ false
        either (inl m) = b q y m f
        either (inr m) =
            let w : q ≡ k = omega arith in
            let s : x ≡ y = some_is x y (sym i ∙ subst (λ m. slice_get d.processes m ≡ Some y) w f) in
            none k y (subst (λ m. slice_get d.processes m ≡ Some y) w f) (subst (λ z. find k z ≡ None) s e)

    go : (k : ℕ) (ps : List Process) → Tail k ps → Before k → first_found find k ps ≡ Some a → Found_at d find breaks a
    go k [] t b h = cc
    go k (x ∷ ps) t b h = cases (find k x) refl h (λ e g. go (suc k) ps (next k x ps t) (more k x (here k x ps t) e b) g)
      where
        cases : (o : Option A) → find k x ≡ o → otherwise o (first_found find (suc k) ps) ≡ Some a → (find k x ≡ None → first_found find (suc k) ps ≡ Some a → Found_at d find breaks a) → Found_at d find breaks a
        cases (Some v) e h rest = record { number = k; process = x; first = record { is = here k x ps t; broken = some k x v (here k x ps t) e; before = b }; found = e ∙ h }
        cases None e h rest = rest e h

-- and the first in the order of the text
record FirstFound {A : Type 0} (d : Design) (find : AnyProcess → Option A) (breaks : AnyProcess → Bool) (a : A) : Type 0 where
  pub what : AnyProcess
  pub first : IsFirstIn d breaks what
  pub found : find what ≡ Some a
  pub formed : formed_any d what ≡ true

first_in_text : {A : Type 0} (d : Design) → IsLawfulDesign d → (find : AnyProcess → Option A) (breaks : AnyProcess → Bool) (a : A)
    → ((x : AnyProcess) → formed_any d x ≡ true → find x ≡ None → breaks x ≡ false) → ((x : AnyProcess) (a : A) → find x ≡ Some a → breaks x ≡ true)
    → first_in find (in_text_order d) ≡ Some a → FirstFound d find breaks a
first_in_text {A} d l find breaks a none some h = go [] (in_text_order d) refl refl (formed_in_text d l) h
  where
    go : (earlier xs : List AnyProcess) → in_text_order d ≡ earlier ++ xs → list_any breaks earlier ≡ false → list_all (formed_any d) xs ≡ true → first_in find xs ≡ Some a → FirstFound d find breaks a
    go earlier [] q b f h = cc
    go earlier (x ∷ xs) q b f h =
        let k = and_both (formed_any d x) (list_all (formed_any d) xs) f in
        cases (find x) refl h (λ e g. go (earlier ++ (x ∷ [])) xs (q ∙ sym (append_assoc earlier (x ∷ []) xs)) (list_any-append breaks earlier (x ∷ []) ∙ or_false _ _ b (or_false _ _ (none x k.0 e) refl)) k.1 g)
      where
        cases : (o : Option A) → find x ≡ o → otherwise o (first_in find xs) ≡ Some a → (find x ≡ None → first_in find xs ≡ Some a → FirstFound d find breaks a) → FirstFound d find breaks a
        cases (Some v) e h rest = record {
          what = x;
          first = record { earlier = earlier; rest = xs; is = q; broken = some x v e; before = b };
          found = e ∙ h;
          formed = (and_both (formed_any d x) (list_all (formed_any d) xs) f).0;
        }
        cases None e h rest = rest e h

-- ---- lengths

-- the first of two, or the second where there is no first
otherwise_some : {A : Type 0} (a b : Option A) (x : A) → otherwise a b ≡ Some x → (a ≡ Some x) ⊎ ((a ≡ None) × (b ≡ Some x))
otherwise_some (Some y) b x h = inl h
otherwise_some None b x h = inr (refl, h)

no_member : (ns : List ℕ) (n : ℕ) → ns ≡ [] → contains ns n ≡ true → ⊥
no_member ns n e h = either_way (contains ns n) h (ap (λ xs. contains xs n) e)

-- of the two least places
abbrev IsEarlier : List ℕ → List ℕ → WidthRefusal → Type 0
IsEarlier wide divisions (TooWide at) = IsLeastOf wide at × ((n : ℕ) → contains divisions n ≡ true → at ≤ n)
IsEarlier wide divisions (Division at) = IsLeastOf divisions at × ((n : ℕ) → contains wide n ≡ true → at < n)
IsEarlier wide divisions (TooLarge n) = ⊥

wide_is : (x y : ℕ) → Some (TooWide x) ≡ Some (TooWide y) → x ≡ y
wide_is x y e = cc

division_is : (x y : ℕ) → Some (Division x) ≡ Some (Division y) → x ≡ y
division_is x y e = cc

earlier_is : (wide divisions : List ℕ) (r : WidthRefusal) → earlier (least wide) (least divisions) ≡ Some r → IsEarlier wide divisions r
earlier_is ws vs r h = go (least ws) (least vs) refl refl r h
  where
    first : (x y : ℕ) → nat_le x y ≡ true → x ≤ y
    first x y t = grind arith

    second : (x y : ℕ) → nat_le x y ≡ false → y < x
    second x y t = grind arith

    go : (a b : Option ℕ) → least ws ≡ a → least vs ≡ b → (r : WidthRefusal) → earlier a b ≡ Some r → IsEarlier ws vs r
    go None None e f r h = cc
    go (Some x) None e f (TooWide at) h = (subst (IsLeastOf ws) (wide_is x at h) (least_is ws x e), λ n k. absurd (no_member vs n (no_least vs f) k))
    go (Some x) None e f (Division at) h = cc
    go (Some x) None e f (TooLarge n) h = cc
    go None (Some y) e f (TooWide at) h = cc
    go None (Some y) e f (Division at) h = (subst (IsLeastOf vs) (division_is y at h) (least_is vs y f), λ n k. absurd (no_member ws n (no_least ws e) k))
    go None (Some y) e f (TooLarge n) h = cc
    go (Some x) (Some y) e f r h =
        by_test (nat_le x y)
        (λ t. wide_first r (subst (λ (c : Bool). (if c then Some (TooWide x) else Some (Division y)) ≡ Some r) t h) (first x y t))
        (λ t. division_first r (subst (λ (c : Bool). (if c then Some (TooWide x) else Some (Division y)) ≡ Some r) t h) (second x y t))
      where
        wide_first : (r : WidthRefusal) → Some (TooWide x) ≡ Some r → x ≤ y → IsEarlier ws vs r
        wide_first (TooWide at) h l =
            let q = wide_is x at h in
            let v = least_is vs y f in
            (subst (IsLeastOf ws) q (least_is ws x e), λ n k. let m = v.least n k in omega (arith, m, q))
        wide_first (Division at) h l = cc
        wide_first (TooLarge n) h l = cc

        division_first : (r : WidthRefusal) → Some (Division y) ≡ Some r → y < x → IsEarlier ws vs r
        division_first (TooWide at) h l = cc
        division_first (Division at) h l =
            let q = division_is y at h in
            let w = least_is ws x e in
            (subst (IsLeastOf vs) q (least_is vs y f), λ n k. let m = w.least n k in omega (arith, m, q))
        division_first (TooLarge n) h l = cc

unfit_is : (x : AnyProcess) → is_unfit x ≡ not (fits_any x)
unfit_is (OfProcess p x) = refl
unfit_is (OfInitial k i) = refl

pub width_refusal_is : WidthRefusalIs
width_refusal_is d l r h = go r (otherwise_some (first_in width_found (in_text_order d)) (too_large d) r h)
  where
    none : (x : AnyProcess) → formed_any d x ≡ true → width_found x ≡ None → is_unfit x ≡ false
    none x f e =
        let q = earlier_none (least (wide_at x)) (least (divisions_at x)) e in
        unfit_is x ∙ ap not (any_clear d x f (least_none (wide_at x) q.0) (least_none (divisions_at x) q.1))

    some : (x : AnyProcess) (a : WidthRefusal) → width_found x ≡ Some a → is_unfit x ≡ true
    some x a e = by_test (fits_any x) (λ f. absurd (apart (none_earlier _ _ (none_least (wide_at x) (any_narrow x f)) (none_least (divisions_at x) (any_undivided x f))) e)) (λ f. unfit_is x ∙ ap not f)
      where
        apart : width_found x ≡ None → width_found x ≡ Some a → ⊥
        apart e f = cc

    by_process : (r : WidthRefusal) → FirstFound d width_found is_unfit r → IsWidthRefusal d r
    by_process (TooWide at) f = let q = earlier_is (wide_at f.what) (divisions_at f.what) (TooWide at) f.found in (f.what, f.first, q.0, q.1)
    by_process (Division at) f = let q = earlier_is (wide_at f.what) (divisions_at f.what) (Division at) f.found in (f.what, f.first, q.0, q.1)
    by_process (TooLarge n) f = absurd (earlier_is (wide_at f.what) (divisions_at f.what) (TooLarge n) f.found)

    large_is : (x y : ℕ) → Some (TooLarge x) ≡ Some (TooLarge y) → x ≡ y
    large_is x y e = cc

    over : nat_lt 16777216 (judged_size d) ≡ true → 16777216 < size d
    over t = at (cases_lt 16777216 (size d))
      where
        judged : (n : ℕ) → nat_lt 16777216 n ≡ true → n ≤ 16777216 → ⊥
        judged n t h = grind arith

        at : (16777216 < size d) ⊎ (size d ≤ 16777216) → 16777216 < size d
        at (inl h) = h
        at (inr h) = absurd (judged (judged_size d) t (small_judged d h))

    by_size : (r : WidthRefusal) → first_in width_found (in_text_order d) ≡ None → too_large d ≡ Some r → IsWidthRefusal d r
    by_size r e f = by_test (nat_lt 16777216 (judged_size d)) (λ t. large r t (subst (λ (c : Bool). where_true c (TooLarge (told_size d)) ≡ Some r) t f)) (λ t. absurd (small r (subst (λ (c : Bool). where_true c (TooLarge (told_size d)) ≡ Some r) t f)))
      where
        small : (r : WidthRefusal) → where_true false (TooLarge (told_size d)) ≡ Some r → ⊥
        small r h = cc

        large : (r : WidthRefusal) → nat_lt 16777216 (judged_size d) ≡ true → Some (TooLarge (told_size d)) ≡ Some r → IsWidthRefusal d r
        large (TooWide at) t h = cc
        large (Division at) t h = cc
        large (TooLarge n) t h =
            let fit = all_fit d l e in
            (processes_pass d l fits_process fits_initial fit, initials_pass d l fits_process fits_initial fit, sym (large_is (told_size d) n h), over t)

    go : (r : WidthRefusal) → (first_in width_found (in_text_order d) ≡ Some r) ⊎ ((first_in width_found (in_text_order d) ≡ None) × (too_large d ≡ Some r)) → IsWidthRefusal d r
    go r (inl e) = by_process r (first_in_text d l width_found is_unfit r none some e)
    go r (inr e) = by_size r e.0 e.1

-- ---- blocks

pub mapped_some : {A B : Type 0} (f : A → B) (o : Option A) (y : B) → option_map f o ≡ Some y → (x : A) × (o ≡ Some x) × (f x ≡ y)
mapped_some f None y h = cc
mapped_some f (Some x) y h = (x, refl, value h)
  where
    value : Some (f x) ≡ Some y → f x ≡ y
    value h = cc

none_of : (ns : List ℕ) → ns ≡ [] → is_some_of ns ≡ false
none_of ns h = rw h refl

empty_of : (ns : List ℕ) → is_some_of ns ≡ false → ns ≡ []
empty_of [] h = refl
empty_of (n ∷ ns) h = cc

-- the signal of a bit, and its number
signal_found : (k scope : ℕ) (ss : List Signal) (b : ℕ) → are_numbered k scope ss ≡ true → contains (signals_bits ss) b ≡ true → (i : ℕ) × (s : Signal) × (slice_get ss i ≡ Some s) × (contains (bits_of_signal s) b ≡ true) × (signal_of ss b ≡ k + i)
signal_found k scope [] b f h = cc
signal_found k scope (s ∷ ss) b f h =
    let p = and_both ((s.number == k) && nat_le scope s.scope) (are_numbered (suc k) s.scope ss) f in
    let q = and_both (s.number == k) (nat_le scope s.scope) p.0 in
    by_test (contains (bits_of_signal s) b)
    (λ e. (0, s, refl, e, let n = eqb-true s.number k q.0 in let m = here e in omega (arith, n, m)))
    (λ e.
    let r = signal_found (suc k) s.scope ss b p.1 (subst (λ c. (c || contains (signals_bits ss) b) ≡ true) e (sym (contains-append (bits_of_signal s) (signals_bits ss) b) ∙ h)) in
    (suc r.0, r.1, r.2, r.3, let n = r.4 in let m = later e in omega (arith, n, m)))
  where
    here : contains (bits_of_signal s) b ≡ true → signal_of (s ∷ ss) b ≡ s.number
    here e = rw e refl

    later : contains (bits_of_signal s) b ≡ false → signal_of (s ∷ ss) b ≡ signal_of ss b
    later e = rw e refl

-- bits are numbered signal by signal
bits_above : (k : ℕ) (ss : List Signal) (i : ℕ) (s : Signal) (b : ℕ) → have_bits_from k ss ≡ true → slice_get ss i ≡ Some s → contains (bits_of_signal s) b ≡ true → k ≤ b
bits_above k [] i s b f h m = cc
bits_above k (x ∷ ss) zero s b f h m =
    let q = eqb-true x.first k (and_both (x.first == k) (have_bits_from (k + signal_length x) ss) f).0 in
    let l = count_low x.first (signal_length x) b (subst (λ r. contains (bits_of_signal r) b ≡ true) (sym (some_signal x s h)) m) in omega (arith, q, l)
  where
    some_signal : (x y : Signal) → Some x ≡ Some y → x ≡ y
    some_signal x y e = cc
bits_above k (x ∷ ss) (suc i) s b f h m = let l = bits_above (k + signal_length x) ss i s b (and_both (x.first == k) (have_bits_from (k + signal_length x) ss) f).1 h m in omega (arith, l)

pub bits_in_order : (k : ℕ) (ss : List Signal) (i j : ℕ) (s t : Signal) (b c : ℕ) → have_bits_from k ss ≡ true → slice_get ss i ≡ Some s → slice_get ss j ≡ Some t → contains (bits_of_signal s) b ≡ true → contains (bits_of_signal t) c ≡ true → b ≤ c → i ≤ j
bits_in_order k [] i j s t b c f h g m n l = cc
bits_in_order k (x ∷ ss) zero j s t b c f h g m n l = omega arith
bits_in_order k (x ∷ ss) (suc i) zero s t b c f h g m n l =
    let p = and_both (x.first == k) (have_bits_from (k + signal_length x) ss) f in
    let q = eqb-true x.first k p.0 in
    let low = bits_above (k + signal_length x) ss i s b p.1 h m in
    let high = count_high x.first (signal_length x) c (subst (λ r. contains (bits_of_signal r) c ≡ true) (sym (some_signal x t g)) n) in absurd (omega (arith, q, low, high))
  where
    some_signal : (x y : Signal) → Some x ≡ Some y → x ≡ y
    some_signal x y e = cc
bits_in_order k (x ∷ ss) (suc i) (suc j) s t b c f h g m n l =
    let r = bits_in_order (k + signal_length x) ss i j s t b c (and_both (x.first == k) (have_bits_from (k + signal_length x) ss) f).1 h g m n l in omega (arith, r)

where_some : {A : Type 0} (c : Bool) (x y : A) → where_true c x ≡ Some y → (c ≡ true) × (x ≡ y)
where_some true x y h = (refl, cc)
where_some false x y h = cc

pub block_refusal_is : BlockRefusalIs
block_refusal_is d l r h = both r (otherwise_some (option_map FunctionLatch (least (function_latches d.functions))) (first_in (block_refusal_at d) (in_text_order d)) r h)
  where
    none_mapped : {A B : Type 0} (f : A → B) (o : Option A) → option_map f o ≡ None → o ≡ None
    none_mapped f None h = refl
    none_mapped f (Some x) h = cc

    none : (x : AnyProcess) → formed_any d x ≡ true → block_refusal_at d x ≡ None → breaks_block d x ≡ false
    none (OfProcess p x) f e =
        let q = block_clear d p x e in
        or_false _ _ (or_false _ _ (none_of (mixed_assigns x) (empty_is (mixed_assigns x) q.0)) (none_of (missing_bits x) (empty_is (missing_bits x) q.1))) (none_of (latches d x) (empty_is (latches d x) q.2))
    none (OfInitial k i) f e = true_where (has_other_start i) (InitialForm k i.place) e

    some : (x : AnyProcess) (a : BlockRefusal) → block_refusal_at d x ≡ Some a → breaks_block d x ≡ true
    some (OfProcess p x) a e = by_test (breaks_block d (OfProcess p x)) (λ t. t) (λ t. absurd (apart (clear t) e))
      where
        clear : breaks_block d (OfProcess p x) ≡ false → block_refusal_of d p x ≡ None
        clear t =
            let q = or_neither (is_some_of (mixed_assigns x) || is_some_of (missing_bits x)) (is_some_of (latches d x)) t in
            let w = or_neither (is_some_of (mixed_assigns x)) (is_some_of (missing_bits x)) q.0 in
            rw (empty_of (mixed_assigns x) w.0, empty_of (missing_bits x) w.1, empty_of (latches d x) q.1) refl

        apart : block_refusal_of d p x ≡ None → block_refusal_of d p x ≡ Some a → ⊥
        apart e f = cc
    some (OfInitial k i) a e = (where_some (has_other_start i) (InitialForm k i.place) a e).0

    -- which of the three it is
    three : (p : ℕ) (x : Process) (r : BlockRefusal) → block_refusal_of d p x ≡ Some r
        → ((m : ℕ) × (least (mixed_assigns x) ≡ Some m) × (MixedAssign m ≡ r))
        ⊎ (((m : ℕ) × (mixed_assigns x ≡ []) × (least (missing_bits x) ≡ Some m) × (Sensitivity p (signal_of d.signals m) (process_place x) ≡ r))
        ⊎ ((m : ℕ) × (mixed_assigns x ≡ []) × (missing_bits x ≡ []) × (least (latches d x) ≡ Some m) × (Latch p m (process_place x) ≡ r)))
    three p x r e = first (otherwise_some (option_map MixedAssign (least (mixed_assigns x))) (otherwise sensitive latched) r e)
      where
        sensitive : Option BlockRefusal
        sensitive = option_map (λ b. Sensitivity p (signal_of d.signals b) (process_place x)) (least (missing_bits x))

        latched : Option BlockRefusal
        latched = option_map (λ b. Latch p b (process_place x)) (least (latches d x))

        Three : Type 0
        Three = ((m : ℕ) × (least (mixed_assigns x) ≡ Some m) × (MixedAssign m ≡ r))
            ⊎ (((m : ℕ) × (mixed_assigns x ≡ []) × (least (missing_bits x) ≡ Some m) × (Sensitivity p (signal_of d.signals m) (process_place x) ≡ r))
            ⊎ ((m : ℕ) × (mixed_assigns x ≡ []) × (missing_bits x ≡ []) × (least (latches d x) ≡ Some m) × (Latch p m (process_place x) ≡ r)))

        mapped_none : {A B : Type 0} (f : A → B) (o : Option A) → option_map f o ≡ None → o ≡ None
        mapped_none f None h = refl
        mapped_none f (Some x) h = cc

        second : option_map MixedAssign (least (mixed_assigns x)) ≡ None → (sensitive ≡ Some r) ⊎ ((sensitive ≡ None) × (latched ≡ Some r)) → Three
        second e (inl f) = let m = mapped_some (λ b. Sensitivity p (signal_of d.signals b) (process_place x)) (least (missing_bits x)) r f in inr (inl (m.0, no_least (mixed_assigns x) (mapped_none MixedAssign (least (mixed_assigns x)) e), m.1, m.2))
        second e (inr f) =
            let m = mapped_some (λ b. Latch p b (process_place x)) (least (latches d x)) r f.1 in
            inr (inr (m.0, no_least (mixed_assigns x) (mapped_none MixedAssign (least (mixed_assigns x)) e), no_least (missing_bits x) (mapped_none (λ b. Sensitivity p (signal_of d.signals b) (process_place x)) (least (missing_bits x)) f.0), m.1, m.2))

        first : (option_map MixedAssign (least (mixed_assigns x)) ≡ Some r) ⊎ ((option_map MixedAssign (least (mixed_assigns x)) ≡ None) × (otherwise sensitive latched ≡ Some r)) → Three
        first (inl f) = let m = mapped_some MixedAssign (least (mixed_assigns x)) r f in inl (m.0, m.1, m.2)
        first (inr f) = second f.0 (otherwise_some sensitive latched r f.1)

    same_mixed : (x y : ℕ) → MixedAssign x ≡ MixedAssign y → x ≡ y
    same_mixed x y e = cc

    same_sensitivity : (p s a q t b : ℕ) → Sensitivity p s a ≡ Sensitivity q t b → (p ≡ q) × (s ≡ t) × (a ≡ b)
    same_sensitivity p s a q t b e = (cc, cc, cc)

    same_latch : (p s a q t b : ℕ) → Latch p s a ≡ Latch q t b → (p ≡ q) × (s ≡ t) × (a ≡ b)
    same_latch p s a q t b e = (cc, cc, cc)

    same_form : (k a j b : ℕ) → InitialForm k a ≡ InitialForm j b → (k ≡ j) × (a ≡ b)
    same_form k a j b e = (cc, cc)

    go : (r : BlockRefusal) → function_latches d.functions ≡ [] → FirstFound d (block_refusal_at d) (breaks_block d) r → IsBlockRefusal d r
    go r unlatched f = by_sort_of f.what f.first f.found f.formed
      where
        by_form : (k : ℕ) (i : Initial) → IsFirstIn d (breaks_block d) (OfInitial k i) → (r : BlockRefusal) → InitialForm k i.place ≡ r → IsBlockRefusal d r
        by_form k i first (FunctionLatch at) e = cc
        by_form k i first (InitialForm j at) e = let q = same_form k i.place j at e in (unlatched, i, subst (λ n. IsFirstIn d (breaks_block d) (OfInitial n i)) q.0 first, sym q.1)
        by_form k i first (MixedAssign at) e = cc
        by_form k i first (Sensitivity p s at) e = cc
        by_form k i first (Latch p b at) e = cc

        cases : (r : BlockRefusal) (p : ℕ) (x : Process) → IsFirstIn d (breaks_block d) (OfProcess p x) → is_formed_process d x ≡ true
            → ((m : ℕ) × (least (mixed_assigns x) ≡ Some m) × (MixedAssign m ≡ r))
            ⊎ (((m : ℕ) × (mixed_assigns x ≡ []) × (least (missing_bits x) ≡ Some m) × (Sensitivity p (signal_of d.signals m) (process_place x) ≡ r))
            ⊎ ((m : ℕ) × (mixed_assigns x ≡ []) × (missing_bits x ≡ []) × (least (latches d x) ≡ Some m) × (Latch p m (process_place x) ≡ r)))
            → IsBlockRefusal d r
        cases (InitialForm k at) n x first formed (inl m) = cc
        cases (InitialForm k at) n x first formed (inr (inl m)) = cc
        cases (InitialForm k at) n x first formed (inr (inr m)) = cc
        cases (FunctionLatch at) n x first formed (inl m) = cc
        cases (FunctionLatch at) n x first formed (inr (inl m)) = cc
        cases (FunctionLatch at) n x first formed (inr (inr m)) = cc
        cases (MixedAssign at) n x first formed (inl m) = (unlatched, n, x, first, subst (IsLeastOf (mixed_assigns x)) (same_mixed m.0 at m.2) (least_is (mixed_assigns x) m.0 m.1))
        cases (MixedAssign at) n x first formed (inr (inl m)) = cc
        cases (MixedAssign at) n x first formed (inr (inr m)) = cc
        cases (Sensitivity p s at) n x first formed (inl m) = cc
        cases (Sensitivity p s at) n x first formed (inr (inl m)) =
            let q = same_sensitivity n (signal_of d.signals m.0) (process_place x) p s at m.3 in
            let i = least_is (missing_bits x) m.0 m.2 in
            let w = signal_found 0 0 d.signals m.0 l.numbered (process_bits d x m.0 formed (missing_read x m.0 i.there)) in
            let at_signal : slice_get d.signals s ≡ Some w.1 = subst (λ n. slice_get d.signals n ≡ Some w.1) (let z = w.4 in let y = q.1 in omega (arith, z, y)) w.2 in
            (unlatched, x, subst (λ n. IsFirstIn d (breaks_block d) (OfProcess n x)) q.0 first, sym q.2, m.1, (m.0, i, (w.1, at_signal, w.3)), λ j t b e c g. bits_in_order 0 d.signals s j w.1 t m.0 b l.bits_numbered at_signal e w.3 c (i.least b g))
          where
            missing_read : (x : Process) (b : ℕ) → contains (missing_bits x) b ≡ true → contains (all_reads x ++ (writes_of x ++ waits_of x)) b ≡ true
            missing_read x b h = contains-left (all_reads x) (writes_of x ++ waits_of x) b (is_read (is_combinational x) h)
              where
                without_in : (xs ys : List ℕ) → contains (without xs ys) b ≡ true → contains xs b ≡ true
                without_in xs ys h = (and_both (contains xs b) (not (contains ys b)) (sym (contains_filter (λ b. not (contains ys b)) xs b) ∙ h)).0

                is_read : (c : Bool) → contains (if c then without (if c then without (all_reads x) (writes_of x) else all_reads x) (signals_bits (wait_signals x)) else []) b ≡ true → contains (all_reads x) b ≡ true
                is_read true h = without_in (all_reads x) (writes_of x) (without_in (without (all_reads x) (writes_of x)) (signals_bits (wait_signals x)) h)
                is_read false h = absurd (either_way _ h refl)
        cases (Sensitivity p s at) n x first formed (inr (inr m)) = cc
        cases (Latch p b at) n x first formed (inl m) = cc
        cases (Latch p b at) n x first formed (inr (inl m)) = cc
        cases (Latch p b at) n x first formed (inr (inr m)) =
            let q = same_latch n m.0 (process_place x) p b at m.4 in
            (unlatched, x, subst (λ n. IsFirstIn d (breaks_block d) (OfProcess n x)) q.0 first, sym q.2, m.1, m.2, subst (IsLeastOf (latches d x)) q.1 (least_is (latches d x) m.0 m.3))

        by_sort_of : (what : AnyProcess) → IsFirstIn d (breaks_block d) what → block_refusal_at d what ≡ Some r → formed_any d what ≡ true → IsBlockRefusal d r
        by_sort_of (OfProcess p x) first found formed = cases r p x first formed (three p x r found)
        by_sort_of (OfInitial k i) first found formed = by_form k i first r (where_some (has_other_start i) (InitialForm k i.place) r found).1

    both : (r : BlockRefusal) → (option_map FunctionLatch (least (function_latches d.functions)) ≡ Some r) ⊎ ((option_map FunctionLatch (least (function_latches d.functions)) ≡ None) × (first_in (block_refusal_at d) (in_text_order d) ≡ Some r)) → IsBlockRefusal d r
    both r (inl e) = let m = mapped_some FunctionLatch (least (function_latches d.functions)) r e in subst (IsBlockRefusal d) m.2 (least_is (function_latches d.functions) m.0 m.1)
    both r (inr e) = go r (no_least (function_latches d.functions) (none_mapped FunctionLatch (least (function_latches d.functions)) e.0)) (first_in_text d l (block_refusal_at d) (breaks_block d) r none some e.1)

-- ---- the clocks, and time zero

-- where a test at a process gives a refusal, it is found at the first process that passes
tested_first : {A : Type 0} (d : Design) (test : Process → Bool) (f : ℕ → Process → A) (a : A) → first_found (λ p process. where_true (test process) (f p process)) 0 d.processes ≡ Some a → (p : ℕ) × (process : Process) × IsFirstOf d test p process × (f p process ≡ a)
tested_first {A} d test f a h =
    let r = found_first d (λ p process. where_true (test process) (f p process)) test a (λ p x i e. none (test x) (f p x) e) (λ p x b i e. some (test x) (f p x) b e) h in
    (r.number, r.process, r.first, value (test r.process) (f r.number r.process) r.found)
  where
    none : (c : Bool) (x : A) → where_true c x ≡ None → c ≡ false
    none true x e = cc
    none false x e = refl

    some : (c : Bool) (x y : A) → where_true c x ≡ Some y → c ≡ true
    some true x y e = refl
    some false x y e = cc

    value : (c : Bool) (x : A) → where_true c x ≡ Some a → x ≡ a
    value true x e = cc
    value false x e = cc

pub clock_refusal_is : ClockRefusalIs
clock_refusal_is d names r h = go (clock_inputs d names) refl r h
  where
    reads : List Signal → Process → Bool
    reads clocks = reads_clock (clock_nets d (clock_bits clocks))

    others : List Signal → Process → Bool
    others clocks = has_other_clock (clock_nets d (clock_bits clocks)) (root_of d (clock_bits clocks))

    same_read : (p a q b : ℕ) → ClockRead p a ≡ ClockRead q b → (p ≡ q) × (a ≡ b)
    same_read p a q b e = (cc, cc)

    same_other : (p a q b : ℕ) → NotTheClock p a ≡ NotTheClock q b → (p ≡ q) × (a ≡ b)
    same_other p a q b e = (cc, cc)

    by_read : (clocks : List Signal) → clock_inputs d names ≡ Some clocks → (r : ClockRefusal) → (p : ℕ) × (process : Process) × IsFirstOf d (reads_clock (clock_nets d (clock_bits clocks))) p process × (ClockRead p (process_place process) ≡ r) → IsClockRefusal d names r
    by_read clocks e NoClock m = cc
    by_read clocks e (ClockRead p at) m = let q = same_read m.0 (process_place m.1) p at m.3 in (clocks, e, (m.1, subst (λ n. IsFirstOf d (reads_clock (clock_nets d (clock_bits clocks))) n m.1) q.0 m.2, sym q.1))
    by_read clocks e (NotTheClock p at) m = cc
    by_read clocks e (ResetForm p at) m = cc

    by_other : (clocks : List Signal) → clock_inputs d names ≡ Some clocks → (r : ClockRefusal) → list_any (reads_clock (clock_nets d (clock_bits clocks))) d.processes ≡ false
        → (p : ℕ) × (process : Process) × IsFirstOf d (has_other_clock (clock_nets d (clock_bits clocks)) (root_of d (clock_bits clocks))) p process × (NotTheClock p (process_place process) ≡ r) → IsClockRefusal d names r
    by_other clocks e NoClock u m = cc
    by_other clocks e (ClockRead p at) u m = cc
    by_other clocks e (ResetForm p at) u m = cc
    by_other clocks e (NotTheClock p at) u m = let q = same_other m.0 (process_place m.1) p at m.3 in (clocks, e, u, (m.1, subst (λ n. IsFirstOf d (has_other_clock (clock_nets d (clock_bits clocks)) (root_of d (clock_bits clocks))) n m.1) q.0 m.2, sym q.1))

    same_form : (p a q b : ℕ) → ResetForm p a ≡ ResetForm q b → (p ≡ q) × (a ≡ b)
    same_form p a q b e = (cc, cc)

    by_form : (clocks : List Signal) → clock_inputs d names ≡ Some clocks → (r : ClockRefusal) → list_any (reads_clock (clock_nets d (clock_bits clocks))) d.processes ≡ false → list_any (has_other_clock (clock_nets d (clock_bits clocks)) (root_of d (clock_bits clocks))) d.processes ≡ false
        → (p : ℕ) × (process : Process) × IsFirstOf d (has_other_form (clock_nets d (clock_bits clocks)) (root_of d (clock_bits clocks))) p process × (ResetForm p (process_place process) ≡ r) → IsClockRefusal d names r
    by_form clocks e NoClock u v m = cc
    by_form clocks e (ClockRead p at) u v m = cc
    by_form clocks e (NotTheClock p at) u v m = cc
    by_form clocks e (ResetForm p at) u v m = let q = same_form m.0 (process_place m.1) p at m.3 in (clocks, e, u, v, (m.1, subst (λ n. IsFirstOf d (has_other_form (clock_nets d (clock_bits clocks)) (root_of d (clock_bits clocks))) n m.1) q.0 m.2, sym q.1))

    go : (o : Option (List Signal)) → clock_inputs d names ≡ o → (r : ClockRefusal) → clock_refusal_by d o ≡ Some r → IsClockRefusal d names r
    go None e NoClock h = e
    go None e (ClockRead p at) h = cc
    go None e (NotTheClock p at) h = cc
    go None e (ResetForm p at) h = cc
    go (Some clocks) e r h = either (otherwise_some (first_found (λ p process. where_true (reads_clock (clock_nets d (clock_bits clocks)) process) (ClockRead p (process_place process))) 0 d.processes) (otherwise (first_found (λ p process. where_true (has_other_clock (clock_nets d (clock_bits clocks)) (root_of d (clock_bits clocks)) process) (NotTheClock p (process_place process))) 0 d.processes) (first_found (λ p process. where_true (has_other_form (clock_nets d (clock_bits clocks)) (root_of d (clock_bits clocks)) process) (ResetForm p (process_place process))) 0 d.processes)) r h)
      where
        second : list_any (reads_clock (clock_nets d (clock_bits clocks))) d.processes ≡ false → ((first_found (λ p process. where_true (has_other_clock (clock_nets d (clock_bits clocks)) (root_of d (clock_bits clocks)) process) (NotTheClock p (process_place process))) 0 d.processes) ≡ Some r) ⊎ (((first_found (λ p process. where_true (has_other_clock (clock_nets d (clock_bits clocks)) (root_of d (clock_bits clocks)) process) (NotTheClock p (process_place process))) 0 d.processes) ≡ None) × ((first_found (λ p process. where_true (has_other_form (clock_nets d (clock_bits clocks)) (root_of d (clock_bits clocks)) process) (ResetForm p (process_place process))) 0 d.processes) ≡ Some r)) → IsClockRefusal d names r
        second u (inl m) = by_other clocks e r u (tested_first d (has_other_clock (clock_nets d (clock_bits clocks)) (root_of d (clock_bits clocks))) (λ p process. NotTheClock p (process_place process)) r m)
        second u (inr m) = by_form clocks e r u (any_none (λ p process. where_true (has_other_clock (clock_nets d (clock_bits clocks)) (root_of d (clock_bits clocks)) process) (NotTheClock p (process_place process))) (has_other_clock (clock_nets d (clock_bits clocks)) (root_of d (clock_bits clocks))) 0 d.processes (λ p x f. true_where (has_other_clock (clock_nets d (clock_bits clocks)) (root_of d (clock_bits clocks)) x) (NotTheClock p (process_place x)) f) m.0)
            (tested_first d (has_other_form (clock_nets d (clock_bits clocks)) (root_of d (clock_bits clocks))) (λ p process. ResetForm p (process_place process)) r m.1)

        either : ((first_found (λ p process. where_true (reads_clock (clock_nets d (clock_bits clocks)) process) (ClockRead p (process_place process))) 0 d.processes) ≡ Some r) ⊎ (((first_found (λ p process. where_true (reads_clock (clock_nets d (clock_bits clocks)) process) (ClockRead p (process_place process))) 0 d.processes) ≡ None) × (otherwise (first_found (λ p process. where_true (has_other_clock (clock_nets d (clock_bits clocks)) (root_of d (clock_bits clocks)) process) (NotTheClock p (process_place process))) 0 d.processes) (first_found (λ p process. where_true (has_other_form (clock_nets d (clock_bits clocks)) (root_of d (clock_bits clocks)) process) (ResetForm p (process_place process))) 0 d.processes) ≡ Some r)) → IsClockRefusal d names r
        either (inl m) = by_read clocks e r (tested_first d (reads_clock (clock_nets d (clock_bits clocks))) (λ p process. ClockRead p (process_place process)) r m)
        either (inr m) =
            second (any_none (λ p process. where_true (reads_clock (clock_nets d (clock_bits clocks)) process) (ClockRead p (process_place process))) (reads_clock (clock_nets d (clock_bits clocks))) 0 d.processes (λ p x f. true_where (reads_clock (clock_nets d (clock_bits clocks)) x) (ClockRead p (process_place x)) f) m.0)
            (otherwise_some (first_found (λ p process. where_true (has_other_clock (clock_nets d (clock_bits clocks)) (root_of d (clock_bits clocks)) process) (NotTheClock p (process_place process))) 0 d.processes) (first_found (λ p process. where_true (has_other_form (clock_nets d (clock_bits clocks)) (root_of d (clock_bits clocks)) process) (ResetForm p (process_place process))) 0 d.processes) r m.1)

-- what is found first, at this place of the list, and nothing before it
record FoundIn {A : Type 0} (find : ℕ → Process → Option A) (k : ℕ) (ps : List Process) (a : A) : Type 0 where
  pub number : ℕ
  pub process : Process
  pub is : slice_get ps number ≡ Some process
  pub found : find (k + number) process ≡ Some a
  pub before : (m : ℕ) (other : Process) → m < number → slice_get ps m ≡ Some other → find (k + m) other ≡ None

found_in : {A : Type 0} (find : ℕ → Process → Option A) (k : ℕ) (ps : List Process) (a : A) → first_found find k ps ≡ Some a → FoundIn find k ps a
found_in find k [] a h = cc
found_in {A} find k (x ∷ ps) a h = cases (find k x) refl h (λ g. found_in find (suc k) ps a g)
  where
    same : (y : Process) → Some x ≡ Some y → x ≡ y
    same y e = cc

    earlier_ones : find k x ≡ None → (r : FoundIn find (suc k) ps a) (m : ℕ) (other : Process) → m < suc r.number → slice_get (x ∷ ps) m ≡ Some other → find (k + m) other ≡ None
    earlier_ones e r zero other l f = subst (λ n. find n other ≡ None) (omega arith) (subst (λ y. find k y ≡ None) (same other f) e)
    earlier_ones e r (suc m) other l f = subst (λ n. find n other ≡ None) (omega arith) (r.before m other (omega (arith, l)) f)

    later : find k x ≡ None → FoundIn find (suc k) ps a → FoundIn find k (x ∷ ps) a
    later e r = record {
      number = suc r.number;
      process = r.process;
      is = r.is;
      found = subst (λ n. find n r.process ≡ Some a) (omega arith) r.found;
      before = earlier_ones e r;
    }

    cases : (o : Option A) → find k x ≡ o → otherwise o (first_found find (suc k) ps) ≡ Some a → (first_found find (suc k) ps ≡ Some a → FoundIn find (suc k) ps a) → FoundIn find k (x ∷ ps) a
    cases (Some v) e h rest = record { number = 0; process = x; is = refl; found = subst (λ n. find n x ≡ Some a) (omega arith) (e ∙ h); before = λ m other l f. absurd (omega (arith, l)) }
    cases None e h rest = later e (rest h)

pub race_refusal_is : RaceRefusalIs
race_refusal_is d r h =
    let f = found_in (race_refusal_of d (level_order d)) 0 d.processes r h in
    cases f.number f.process f.is (λ m other l e. no_bits m other (subst (λ n. race_refusal_of d (level_order d) n other ≡ None) (omega arith) (f.before m other l e))) r (subst (λ n. race_refusal_of d (level_order d) n f.process ≡ Some r) (omega arith) f.found)
  where
    bits : ℕ → Process → List ℕ
    bits p process = race_bits d (level_order d) p process

    no_bits : (p : ℕ) (x : Process) → race_refusal_of d (level_order d) p x ≡ None → bits p x ≡ []
    no_bits p x e = no_least (bits p x) (unmapped (least (bits p x)) e)
      where
        unmapped : (o : Option ℕ) → option_map (λ b. Race p b (process_place x)) o ≡ None → o ≡ None
        unmapped None e = refl
        unmapped (Some b) e = cc

    same_race : (p b a q c e : ℕ) → Race p b a ≡ Race q c e → (p ≡ q) × (b ≡ c) × (a ≡ e)
    same_race p b a q c e h = (cc, cc, cc)

    cases : (p : ℕ) (x : Process) → slice_get d.processes p ≡ Some x → ((q : ℕ) (other : Process) → q < p → slice_get d.processes q ≡ Some other → bits q other ≡ []) → (r : RaceRefusal) → race_refusal_of d (level_order d) p x ≡ Some r → IsRaceRefusal d r
    cases p x i before (Race q b at) e =
        let m = mapped_some (λ b. Race p b (process_place x)) (least (bits p x)) (Race q b at) e in
        let s = same_race p m.0 (process_place x) q b at m.2 in
        subst (λ n. IsRaceRefusal d (Race n b at)) s.0 (x, i, subst (IsLeastOf (bits p x)) s.1 (least_is (bits p x) m.0 m.1), sym s.2, before)

pub zero_refusal_is : ZeroRefusalIs
zero_refusal_is d names r h = go (clock_inputs d names) refl r h
  where
    same_zero : (p a q b : ℕ) → TimeZero p a ≡ TimeZero q b → (p ≡ q) × (a ≡ b)
    same_zero p a q b e = (cc, cc)

    go : (o : Option (List Signal)) → clock_inputs d names ≡ o → (r : ZeroRefusal) → zero_refusal_by d o ≡ Some r → IsZeroRefusal d names r
    go None e r h = cc
    go (Some clocks) e (TimeZero p at) h =
        let m = tested_first d (is_uncertain d (families d (clock_bits clocks) (level_order d))) (λ p process. TimeZero p (process_place process)) (TimeZero p at) h in
        let q = same_zero m.0 (process_place m.1) p at m.3 in
        (clocks, e, (m.1, subst (λ n. IsFirstOf d (is_uncertain d (families d (clock_bits clocks) (level_order d))) n m.1) q.0 m.2, sym q.1))

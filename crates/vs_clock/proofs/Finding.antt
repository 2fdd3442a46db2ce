-- Signals that are found by name, and inputs that may be resets.
use Rattle.std.proofs.Common.{◌≡◌, ℕ, zero, suc, ◌+◌, ◌≤◌, ◌<◌, Bool, true, false, List, [], ◌∷◌, ◌++◌, ◌||◌, ◌&&◌, ◌==◌, not, refl, sym, ap, ◌∙◌, subst, eqb-true, get_or, map, take, length, arith, Some, None, Option, is_some, find, if◌then◌else◌, sum_by}
use Rattle.std.specs.Prelude.{slice_get, filter}
use Rattle.std.specs.List.{filter_map, cons_option}
use Rattle.std.specs.Cmp.Lexicographic.{pointwise}
use Rattle.std.specs.Prelude.{nat_eq}
use Rattle.std.proofs.lemmas.List.{take_more, take_all}
use Rattle.std.proofs.lemmas.List.Sums.{sum_by-cons}
use Rattle.vs_design.specs.Expressions.{Signal, signal_length}
use Rattle.vs_design.specs.Designs.{Design, bit_count, top_inputs}
use Rattle.vs_design.specs.Footprints.{contains}
use Rattle.vs_design.specs.Clocks.{same_name, may_reset, first_of, one_bit_inputs}
use Rattle.vs_design.specs.Elaborated.{have_bits_from, IsLawfulDesign}
use Rattle.vs_flat.specs.declared.processes.Signal.{Signal as Flat}
use Rattle.vs_flat.specs.Arena.{Arena, inputs_from}
use Rattle.vs_flat.specs.Arena as A
use Rattle.vs_flat.specs.Laws.{InputsStay}
use Rattle.vs_flat.specs.Trees.{no_signal, signal_at}
use Rattle.vs_flat.specs.DesignOf.{arena_signals, design_of}
use Rattle.vs_clock.specs.Inputs.{is_named_input, reset_bit}
use Rattle.vs_clock.specs.Ports.{one_bit}
use Rattle.vs_reads.proofs.Tests.{by_test, and_both}

-- ---- names

pub same_is : (xs ys : List ℕ) → pointwise nat_eq xs ys ≡ same_name xs ys
same_is [] [] = refl
same_is [] (y ∷ ys) = refl
same_is (x ∷ xs) [] = refl
same_is (x ∷ xs) (y ∷ ys) = ap {B = Bool} (λ t. (x == y) && t) (same_is xs ys)

one_some : (s : Signal) → is_some (one_bit s) ≡ (signal_length s == 1)
one_some s = by_test (signal_length s == 1) (λ e. rw e refl) (λ e. rw e refl)

pub named_no : (name : List ℕ) (s : Signal) → s.input ≡ false → false ≡ is_named_input name s
named_no name s h = sym (ap {B = Bool} (λ t. t && same_name s.name name && (signal_length s == 1)) h)

pub named_other : (name : List ℕ) (s : Signal) → s.input ≡ true → same_name s.name name ≡ false → false ≡ is_named_input name s
named_other name s h k = sym (ap {B = Bool} (λ t. t && same_name s.name name && (signal_length s == 1)) h ∙ ap {B = Bool} (λ t. t && (signal_length s == 1)) k)

pub named_by : (name : List ℕ) (s : Signal) (r : Bool) → s.input ≡ true → same_name s.name name ≡ true → r ≡ is_some (one_bit s) → r ≡ is_named_input name s
named_by name s r h k e = e ∙ one_some s ∙ sym (ap {B = Bool} (λ t. t && same_name s.name name && (signal_length s == 1)) h ∙ ap {B = Bool} (λ t. t && (signal_length s == 1)) k)

-- ---- the first

pub find_more : (test : Signal → Bool) (ss : List Signal) (n : ℕ) → n < length ss → find test (take n ss) ≡ None → test (signal_at ss n) ≡ false → find test (take (n + 1) ss) ≡ None
find_more test ss n l h k = ap (find test) (take_more ss n no_signal l) ∙ go (take n ss) h
  where
    go : (xs : List Signal) → find test xs ≡ None → find test (xs ++ signal_at ss n ∷ []) ≡ None
    go [] e = ap {B = Option Signal} (λ t. if t then Some (signal_at ss n) else None) k
    go (x ∷ xs) e = by_test (test x) (λ f. absurd (found f e)) (λ f. rw f (go xs (sym (ap {B = Option Signal} (λ t. if t then Some x else find test xs) f) ∙ e)))
      where
        found : test x ≡ true → find test (x ∷ xs) ≡ None → ⊥
        found f e = some_none (sym (ap {B = Option Signal} (λ t. if t then Some x else find test xs) f) ∙ e)
          where
            some_none : Some x ≡ None → ⊥
            some_none e = cc

pub find_at : (test : Signal → Bool) (ss : List Signal) (n : ℕ) → n < length ss → find test (take n ss) ≡ None → test (signal_at ss n) ≡ true → Some (signal_at ss n) ≡ find test ss
find_at test [] n l h k = absurd (omega (arith, l))
find_at test (s ∷ ss) zero l h k = sym (ap {B = Option Signal} (λ t. if t then Some s else find test ss) k)
find_at test (s ∷ ss) (suc n) l h k =
    by_test (test s)
    (λ e. absurd (some_none (sym (ap {B = Option Signal} (λ t. if t then Some s else find test (take n ss)) e) ∙ h)))
    (λ e. find_at test ss n (omega (arith, l)) (sym (ap {B = Option Signal} (λ t. if t then Some s else find test (take n ss)) e) ∙ h) k ∙ sym (ap {B = Option Signal} (λ t. if t then Some s else find test ss) e))
  where
    some_none : Some s ≡ None → ⊥
    some_none e = cc

pub find_none : (test : Signal → Bool) (ss : List Signal) (n : ℕ) → length ss ≤ n → find test (take n ss) ≡ None → None ≡ find test ss
find_none test ss n l h = sym (sym (ap (find test) (take_all n ss l)) ∙ h)

-- ---- inputs that may be resets

map-take_more : (f : ℕ → Signal) (xs : List ℕ) (i : ℕ) → i < length xs → map f (take (i + 1) xs) ≡ map f (take i xs) ++ f (get_or xs i 0) ∷ []
map-take_more f xs i l = ap (map f) (take_more xs i 0 l) ∙ go (take i xs)
  where
    go : (ys : List ℕ) → map f (ys ++ get_or xs i 0 ∷ []) ≡ map f ys ++ f (get_or xs i 0) ∷ []
    go [] = refl
    go (y ∷ ys) = ap {B = List Signal} (λ zs. f y ∷ zs) (go ys)

pub filter_map_snoc : (g : Signal → Option ℕ) (ss : List Signal) (s : Signal) → filter_map g (ss ++ s ∷ []) ≡ filter_map g ss ++ filter_map g (s ∷ [])
filter_map_snoc g [] s = refl
filter_map_snoc g (x ∷ xs) s = go (g x) (filter_map_snoc g xs s)
  where
    go : (o : Option ℕ) → filter_map g (xs ++ s ∷ []) ≡ filter_map g xs ++ filter_map g (s ∷ []) → cons_option o (filter_map g (xs ++ s ∷ [])) ≡ cons_option o (filter_map g xs) ++ filter_map g (s ∷ [])
    go None h = h
    go (Some v) h = ap {B = List ℕ} (λ zs. v ∷ zs) h

pub one_made : (g : Signal → Option ℕ) (s : Signal) (v : ℕ) → g s ≡ Some v → filter_map g (s ∷ []) ≡ v ∷ []
one_made g s v e = rw e refl

pub none_made : (g : Signal → Option ℕ) (s : Signal) → g s ≡ None → filter_map g (s ∷ []) ≡ []
none_made g s e = rw e refl

pub append_nil : (ys : List ℕ) → ys ++ [] ≡ ys
append_nil [] = refl
append_nil (y ∷ ys) = ap {B = List ℕ} (λ zs. y ∷ zs) (append_nil ys)

pub bit_added : (g : Signal → Option ℕ) (f : ℕ → Signal) (xs : List ℕ) (i v : ℕ) (bits : List ℕ) → i < length xs → bits ≡ filter_map g (map f (take i xs)) → Some v ≡ g (f (get_or xs i 0)) → bits ++ v ∷ [] ≡ filter_map g (map f (take (i + 1) xs))
bit_added g f xs i v bits l h e = ap {B = List ℕ} (λ zs. zs ++ v ∷ []) h ∙ sym (ap (filter_map g) (map-take_more f xs i l) ∙ filter_map_snoc g (map f (take i xs)) (f (get_or xs i 0)) ∙ ap {B = List ℕ} (λ zs. filter_map g (map f (take i xs)) ++ zs) (one_made g (f (get_or xs i 0)) v (sym e)))

pub bit_left : (g : Signal → Option ℕ) (f : ℕ → Signal) (xs : List ℕ) (i : ℕ) (bits : List ℕ) → i < length xs → bits ≡ filter_map g (map f (take i xs)) → None ≡ g (f (get_or xs i 0)) → bits ≡ filter_map g (map f (take (i + 1) xs))
bit_left g f xs i bits l h e = h ∙ sym (ap (filter_map g) (map-take_more f xs i l) ∙ filter_map_snoc g (map f (take i xs)) (f (get_or xs i 0)) ∙ ap {B = List ℕ} (λ zs. filter_map g (map f (take i xs)) ++ zs) (none_made g (f (get_or xs i 0)) (sym e)) ∙ append_nil (filter_map g (map f (take i xs))))

kept_are : (clocks : List ℕ) (ss : List Signal) → filter_map (reset_bit clocks) ss ≡ map first_of (filter (may_reset clocks) ss)
kept_are clocks [] = refl
kept_are clocks (s ∷ ss) = by_test (may_reset clocks s) (λ e. rw e (ap {B = List ℕ} (λ zs. s.first ∷ zs) (kept_are clocks ss))) (λ e. rw e (kept_are clocks ss))

pub bits_whole : InputsStay → (a : Arena) (clocks : List ℕ) (xs : List ℕ) (n : ℕ) (bits : List ℕ) → xs ≡ A.top_inputs a → length xs ≤ n → bits ≡ filter_map (reset_bit clocks) (map (signal_at (arena_signals a)) (take n xs)) → bits ≡ one_bit_inputs (design_of a) clocks
bits_whole stay a clocks xs n bits e l h = h ∙ ap (λ zs. filter_map (reset_bit clocks) (map (signal_at (arena_signals a)) zs)) (take_all n xs l ∙ e) ∙ ap (filter_map (reset_bit clocks)) (stay a) ∙ kept_are clocks (top_inputs (design_of a))

inputs_below : (n : ℕ) (ss : List Flat) (k : ℕ) → k < length (inputs_from n ss) → get_or (inputs_from n ss) k 0 < n + length ss
inputs_below n [] k l = absurd (omega (arith, l))
inputs_below n (s ∷ ss) k l = go s.input k (λ k l. inputs_below (suc n) ss k l) l
  where
    go : (t : Bool) (k : ℕ) → ((k : ℕ) → k < length (inputs_from (suc n) ss) → get_or (inputs_from (suc n) ss) k 0 < suc n + length ss) → k < length (if t then (n ∷ inputs_from (suc n) ss) else inputs_from (suc n) ss) → get_or (if t then (n ∷ inputs_from (suc n) ss) else inputs_from (suc n) ss) k 0 < n + length (s ∷ ss)
    go true zero h l = omega arith
    go true (suc k) h l = let r = h k (omega (arith, l)) in omega (arith, r)
    go false k h l = let r = h k l in omega (arith, r)

pub input_there : (a : Arena) (xs : List ℕ) (k : ℕ) → xs ≡ A.top_inputs a → k < length xs → get_or xs k 0 < length a.signals
input_there a xs k e l =
    subst (λ zs. get_or zs k 0 < length a.signals) (sym e) (let r = inputs_below 0 a.signals k (subst (λ zs. k < length zs) e l) in omega (arith, r))

-- ---- bits of signals are bits of the design

pub among_filter : (f : Signal → Bool) (ss : List Signal) (b : ℕ) → contains (map first_of (filter f ss)) b ≡ true → (n : ℕ) × (s : Signal) × (slice_get ss n ≡ Some s) × (s.first ≡ b) × (f s ≡ true)
among_filter f [] b h = cc
among_filter f (s ∷ ss) b h =
    by_test (f s)
    (λ e. by_test (b == s.first)
    (λ k. (0, s, refl, sym (eqb-true b s.first k), e))
    (λ k. let r = among_filter f ss b (subst (λ t. (t || contains (map first_of (filter f ss)) b) ≡ true) k (subst (λ (t : Bool). contains (map first_of (if t then (s ∷ filter f ss) else filter f ss)) b ≡ true) e h)) in (suc r.0, r.1, r.2, r.3, r.4)))
    (λ e. let r = among_filter f ss b (subst (λ (t : Bool). contains (map first_of (if t then (s ∷ filter f ss) else filter f ss)) b ≡ true) e h) in (suc r.0, r.1, r.2, r.3, r.4))

filtered_in : (f : Signal → Bool) (ss : List Signal) (n : ℕ) (s : Signal) → slice_get (filter f ss) n ≡ Some s → (m : ℕ) × (slice_get ss m ≡ Some s)
filtered_in f [] n s e = cc
filtered_in f (x ∷ xs) n s e = by_test (f x) (λ k. kept n (subst (λ (t : Bool). slice_get (if t then (x ∷ filter f xs) else filter f xs) n ≡ Some s) k e) (λ n e. filtered_in f xs n s e)) (λ k. let r = filtered_in f xs n s (subst (λ (t : Bool). slice_get (if t then (x ∷ filter f xs) else filter f xs) n ≡ Some s) k e) in (suc r.0, r.1))
  where
    kept : (n : ℕ) → slice_get (x ∷ filter f xs) n ≡ Some s → ((n : ℕ) → slice_get (filter f xs) n ≡ Some s → (m : ℕ) × (slice_get xs m ≡ Some s)) → (m : ℕ) × (slice_get (x ∷ xs) m ≡ Some s)
    kept zero e h = (0, e)
    kept (suc n) e h = let r = h n e in (suc r.0, r.1)

pub signal_below : (first : ℕ) (ss : List Signal) (n : ℕ) (s : Signal) → have_bits_from first ss ≡ true → slice_get ss n ≡ Some s → s.first + signal_length s ≤ first + sum_by signal_length ss
signal_below first [] n s h e = cc
signal_below first (x ∷ xs) zero s h e =
    let k = and_both (x.first == first) (have_bits_from (first + signal_length x) xs) h in
    let f : x.first ≡ first = eqb-true x.first first k.0 in
    subst (λ (z : Signal). z.first + signal_length z ≤ first + sum_by signal_length (x ∷ xs)) (some_same x s e) (omega (arith, f, sum_by-cons signal_length x xs))
  where
    some_same : (x y : Signal) → Some x ≡ Some y → x ≡ y
    some_same x y e = cc
signal_below first (x ∷ xs) (suc n) s h e =
    let k = and_both (x.first == first) (have_bits_from (first + signal_length x) xs) h in
    let r = signal_below (first + signal_length x) xs n s k.1 e in omega (arith, r, sum_by-cons signal_length x xs)

-- the bit of a signal that has one
pub bit_below : (d : Design) → IsLawfulDesign d → (n : ℕ) (s : Signal) → slice_get d.signals n ≡ Some s → signal_length s ≡ 1 → s.first < bit_count d
bit_below d l n s e h = let r = signal_below 0 d.signals n s l.bits_numbered e in omega (arith, r, h)

pub reset_below : (d : Design) → IsLawfulDesign d → (clocks : List ℕ) (b : ℕ) → contains (one_bit_inputs d clocks) b ≡ true → b < bit_count d
reset_below d l clocks b h =
    let r = among_filter (may_reset clocks) (top_inputs d) b h in
    let m = filtered_in (λ s. s.input) d.signals r.0 r.1 r.2 in
    subst (λ n. n < bit_count d) r.3 (bit_below d l m.0 r.1 m.1 (eqb-true (signal_length r.1) 1 (and_both (signal_length r.1 == 1) (not (contains clocks r.1.first)) r.4).0))

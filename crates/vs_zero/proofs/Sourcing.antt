-- Tables whose bits get their sets signal by signal.
use Rattle.std.proofs.Common.{◌≡◌, ℕ, zero, suc, ◌+◌, ◌<◌, ◌≤◌, Bool, true, false, List, [], ◌∷◌, ◌++◌, length, take, set, filter, refl, sym, ap, ◌∙◌, arith, inl, inr}
use Rattle.std.specs.Prelude.{◌||◌, ◌==◌, nat_lt, if◌then◌else◌, slice_index_or}
use mathlib.Core.Path.{fun_ext}
use Rattle.std.proofs.lemmas.List.{take_more, get_or_past}
use Rattle.std.proofs.Math.Seq.{take-append_seam}
use Rattle.std.proofs.lemmas.List.Elements.{filter-append}
use Rattle.std.proofs.lemmas.List.Folds.{list_any-append}
use Rattle.std.proofs.lemmas.Bool.{cases_lt, cond-true, cond-false}
use Rattle.vs_four.specs.declared.Bit4.TheVariants.{Zero, X, Z}
use Rattle.vs_net.specs.Network.{put}
use Rattle.vs_design.specs.Expressions.{Signal}
use Rattle.vs_design.specs.Footprints.{contains, signals_bits}
use Rattle.vs_design.specs.Lifted.{Family}
use Rattle.vs_design.specs.Designs.{Design, bit_count}
use Rattle.vs_design.specs.Initials.{idle_value, start_value}
use Rattle.vs_design.specs.Resets.{with_resets}
use Rattle.vs_design.specs.Sets.{Set4, only, known_set}
use Rattle.vs_design.specs.TimeZero.{late_source}
use Rattle.vs_design.specs.Values.{count_from, bits_of_signal}
use Rattle.vs_flat.specs.Trees.{no_signal, signal_at}
use Rattle.vs_sets.specs.Branches.{replaced}
use Rattle.vs_sets.specs.Tables.{beyond, family_of}
use Rattle.vs_zero.specs.declared.sources.SignalKind.TheVariants.{Net, Input}
use Rattle.vs_zero.specs.Sources.{bits_of_kind, with_clocks}
use Rattle.vs_sets.proofs.Families.{put_family}
use Rattle.vs_sets.proofs.BranchSteps.{or_false}

-- one bit more of a run
count_more : (first n : ℕ) → count_from first (n + 1) ≡ count_from first n ++ (first + n) ∷ []
count_more first zero = ap (λ m. m ∷ []) (omega arith)
count_more first (suc n) =
    let more : suc n + 1 ≡ suc (n + 1) = omega arith in
    let turned : suc first + n ≡ first + suc n = omega arith in
    ap (count_from first) more ∙ ap (λ bs. first ∷ bs) (count_more (suc first) n ∙ ap (λ m. count_from (suc first) n ++ m ∷ []) turned)

pub run_filled : (t : List Set4) (first n b : ℕ) (set_ : Set4) (g : Family) → b ≡ first + n → b < length t → family_of t ≡ replaced (count_from first n) (λ b. set_) g → family_of (set t b set_) ≡ replaced (count_from first (n + 1)) (λ b. set_) g
run_filled t first n b set_ g e l h = put_family t b set_ l ∙ ap (λ f. put f b set_) h ∙ fun_ext (λ c. at c (c == b) (contains (count_from first n) c) (more c)) where
  more : (c : ℕ) → contains (count_from first (n + 1)) c ≡ (contains (count_from first n) c || (c == b))
  more c = ap (λ bs. contains bs c) (count_more first n) ∙ list_any-append (λ d. c == d) (count_from first n) ((first + n) ∷ []) ∙ ap (λ q. contains (count_from first n) c || q) (or_false (c == (first + n)) ∙ ap (λ m. c == m) (sym e))

  at : (c : ℕ) (here before : Bool) → contains (count_from first (n + 1)) c ≡ (before || here) → (if here then set_ else (if before then set_ else g c)) ≡ (if contains (count_from first (n + 1)) c then set_ else g c)
  at c true true h = sym (cond-true _ _ _ h)
  at c true false h = sym (cond-true _ _ _ h)
  at c false true h = sym (cond-true _ _ _ h)
  at c false false h = sym (cond-false _ _ _ h)

-- ---- signals

signals_append : (ss ts : List Signal) → signals_bits (ss ++ ts) ≡ signals_bits ss ++ signals_bits ts
signals_append [] ts = refl
signals_append (s ∷ ss) ts = ap (λ bs. bits_of_signal s ++ bs) (signals_append ss ts) ∙ sym (assoc (bits_of_signal s) (signals_bits ss) (signals_bits ts))
  where
    assoc : (xs ys zs : List ℕ) → (xs ++ ys) ++ zs ≡ xs ++ (ys ++ zs)
    assoc [] ys zs = refl
    assoc (x ∷ xs) ys zs = ap (λ ws. x ∷ ws) (assoc xs ys zs)

filter_snoc : (test : Signal → Bool) (ss : List Signal) (s : Signal) → filter test (ss ++ s ∷ []) ≡ filter test ss ++ (if test s then (s ∷ []) else [])
filter_snoc test [] s = refl
filter_snoc test (x ∷ ss) s = at (test x) (filter_snoc test ss s)
  where
    at : (k : Bool) → filter test (ss ++ s ∷ []) ≡ filter test ss ++ (if test s then (s ∷ []) else [])
        → (if k then (x ∷ filter test (ss ++ s ∷ [])) else filter test (ss ++ s ∷ [])) ≡ (if k then (x ∷ filter test ss) else filter test ss) ++ (if test s then (s ∷ []) else [])
    at true h = ap (λ xs. x ∷ xs) h
    at false h = h

append_nil : (xs : List ℕ) → xs ++ [] ≡ xs
append_nil [] = refl
append_nil (x ∷ xs) = ap (λ ys. x ∷ ys) (append_nil xs)

bits_more : (test : Signal → Bool) (ss : List Signal) (n : ℕ) → n < length ss → signals_bits (filter test (take (n + 1) ss)) ≡ signals_bits (filter test (take n ss)) ++ (if test (signal_at ss n) then bits_of_signal (signal_at ss n) else [])
bits_more test ss n h =
    ap (λ xs. signals_bits (filter test xs)) (take_more ss n no_signal h) ∙ ap signals_bits (filter_snoc test (take n ss) (signal_at ss n))
    ∙ signals_append (filter test (take n ss)) (if test (signal_at ss n) then (signal_at ss n ∷ []) else []) ∙ ap (λ bs. signals_bits (filter test (take n ss)) ++ bs) (at (test (signal_at ss n)))
  where
    at : (k : Bool) → signals_bits (if k then (signal_at ss n ∷ []) else []) ≡ (if k then bits_of_signal (signal_at ss n) else [])
    at true = append_nil (bits_of_signal (signal_at ss n))
    at false = refl

replaced_more : (xs ys : List ℕ) (set_ : Set4) (g : Family) → replaced ys (λ b. set_) (replaced xs (λ b. set_) g) ≡ replaced (xs ++ ys) (λ b. set_) g
replaced_more xs ys set_ g = fun_ext (λ b. at b (contains xs b) (contains ys b) (list_any-append (λ c. b == c) xs ys)) where
  at : (b : ℕ) (k l : Bool) → contains (xs ++ ys) b ≡ (k || l) → (if l then set_ else (if k then set_ else g b)) ≡ (if contains (xs ++ ys) b then set_ else g b)
  at b true true h = sym (cond-true _ _ _ h)
  at b true false h = sym (cond-true _ _ _ h)
  at b false true h = sym (cond-true _ _ _ h)
  at b false false h = sym (cond-false _ _ _ h)

pub signal_filled : (test : Signal → Bool) (ss : List Signal) (n : ℕ) (set_ : Set4) (f g h : Family) → n < length ss → test (signal_at ss n) ≡ true → f ≡ replaced (signals_bits (filter test (take n ss))) (λ b. set_) g → h ≡ replaced (bits_of_signal (signal_at ss n)) (λ b. set_) f
    → h ≡ replaced (signals_bits (filter test (take (n + 1) ss))) (λ b. set_) g
signal_filled test ss n set_ f g h l t e k =
    k ∙ ap (replaced (bits_of_signal (signal_at ss n)) (λ b. set_)) e ∙ replaced_more (signals_bits (filter test (take n ss))) (bits_of_signal (signal_at ss n)) set_ g
    ∙ ap (λ bs. replaced bs (λ b. set_) g) (sym (bits_more test ss n l ∙ ap (λ q. signals_bits (filter test (take n ss)) ++ (if q then bits_of_signal (signal_at ss n) else [])) t))

pub signal_skipped : (test : Signal → Bool) (ss : List Signal) (n : ℕ) (set_ : Set4) (f g : Family) → n < length ss → test (signal_at ss n) ≡ false → f ≡ replaced (signals_bits (filter test (take n ss))) (λ b. set_) g
    → f ≡ replaced (signals_bits (filter test (take (n + 1) ss))) (λ b. set_) g
signal_skipped test ss n set_ f g l t e =
    e ∙ ap (λ bs. replaced bs (λ b. set_) g) (sym (bits_more test ss n l ∙ ap (λ q. signals_bits (filter test (take n ss)) ++ (if q then bits_of_signal (signal_at ss n) else [])) t ∙ append_nil (signals_bits (filter test (take n ss)))))

-- ---- the early sets

pub nets_filled : (d : Design) (t : List Set4) → ((b : ℕ) → b < length t → family_of t b ≡ only X) → replaced (bits_of_kind Net d) (λ b. only Z) (family_of t) ≡ (λ b. only (idle_value d b))
nets_filled d t h = fun_ext (λ b. ap (λ s. if contains (bits_of_kind Net d) b then only Z else s) (each b) ∙ of_one (contains (bits_of_kind Net d) b)) where
  of_one : (c : Bool) → (if c then only Z else only X) ≡ only (if c then Z else X)
  of_one true = refl
  of_one false = refl

  each : (b : ℕ) → family_of t b ≡ only X
  each b = elim (cases_lt b (length t)) [ inl l ↦ h b l | inr l ↦ get_or_past t b beyond l ]

pub seam : (n : ℕ) (xs ys : List Set4) → n ≡ length xs → take n (xs ++ ys) ≡ xs
seam n xs ys h = ap {B = List Set4} (λ m. take m (xs ++ ys)) h ∙ take-append_seam xs ys

-- ---- the late sets

pub clock_put : (clock : ℕ) (t : List Set4) → clock < length t → family_of (set t clock (only Zero)) ≡ with_clocks (clock ∷ []) (length t) (family_of t)
clock_put clock t l = put_family t clock (only Zero) l ∙ fun_ext (λ b. ap (λ k. if k then only Zero else family_of t b) (sym (or_false (b == clock)) ∙ ap (λ c. contains (if c then (clock ∷ []) else []) b) (sym (is_below clock (length t) l))))
  where
    is_below : (m n : ℕ) → m < n → nat_lt m n ≡ true
    is_below m n h = grind arith

pub clock_left : (clock : ℕ) (t : List Set4) → length t ≤ clock → family_of t ≡ with_clocks (clock ∷ []) (length t) (family_of t)
clock_left clock t l = fun_ext (λ b. ap (λ c. if contains (if c then (clock ∷ []) else []) b then only Zero else family_of t b) (sym (is_past clock (length t) l)))
  where
    is_past : (m n : ℕ) → n ≤ m → nat_lt m n ≡ false
    is_past m n h = grind arith

-- no clock is set yet
pub clocks_begun : (count : ℕ) (f : Family) → f ≡ with_clocks [] count f
clocks_begun count f = refl

-- and one clock more
pub clocks_more : (cs : List ℕ) (k count : ℕ) (f g h : Family) → k < length cs → g ≡ with_clocks (take k cs) count f → h ≡ with_clocks (slice_index_or cs k 0 ∷ []) count g → h ≡ with_clocks (take (k + 1) cs) count f
clocks_more cs k count f g h l e s =
    s ∙ ap (with_clocks (slice_index_or cs k 0 ∷ []) count) e
    ∙ replaced_more (filter (λ c. nat_lt c count) (take k cs)) (filter (λ c. nat_lt c count) (slice_index_or cs k 0 ∷ [])) (only Zero) f
    ∙ ap (λ bs. replaced bs (λ b. only Zero) f) (sym (filter-append (λ c. nat_lt c count) (take k cs) (slice_index_or cs k 0 ∷ [])))
    ∙ ap (λ bs. with_clocks bs count f) (sym (take_more cs k 0 l))

pub late_made : (d : Design) (clocks : List ℕ) (f : Family) → f ≡ replaced (bits_of_kind Input d) (λ b. known_set) (λ b. with_resets d clocks d.processes b (only (start_value d b))) → with_clocks clocks (bit_count d) f ≡ late_source d clocks
late_made d clocks f h = ap (with_clocks clocks (bit_count d)) h

-- Sums over processes and signals, step by step.
use Rattle.std.proofs.Common.{◌≡◌, ℕ, ◌+◌, ◌<◌, ◌≤◌, Bool, true, false, not, if◌then◌else◌, List, [], ◌∷◌, ◌++◌, length, take, get_or, Some, refl, sym, ap, ap₂, ◌∙◌, arith, append_assoc}
use Rattle.std.specs.Prelude.{sum_by, filter, map, slice_get}
use Rattle.std.proofs.lemmas.List.{take_more, take_all, append-nil, map-append}
use Rattle.std.proofs.lemmas.List.Sums.{sum_by-cons}
use Rattle.std.proofs.lemmas.Option.{slice_get_within, slice_get-get_or, get_or_from_slice_get}
use Rattle.vs_design.specs.Expressions.{Signal, signal_length}
use Rattle.std.specs.List.{list_any}
use Rattle.vs_design.specs.Statements.{Statement}
use Rattle.vs_design.specs.Designs.{Event, Process, Always, Design, has_edge, is_clocked, bit_count}
use Rattle.vs_design.specs.Elaborated.{IsLawfulDesign}
use Rattle.vs_design.specs.Values.{bits_of_signal}
use Rattle.vs_design.specs.Footprints.{is_stored, signals_bits, statement_bits, writes_of, waits_of, ascending}
use Rattle.vs_design.specs.Races.{doubled, doubled_bits}
use Rattle.vs_design.specs.Sizes.{distinct, statement_weight, process_weight, sleeper_weight, register_bits}
use Rattle.vs_design.specs.Sleepers.{is_sleeping}
use Rattle.vs_reads.specs.Footprint.{footprints_of, waits_at, writes_at}
use Rattle.vs_reads.specs.Laws.{HasBitsOf, EachIsOfItsProcess, EachHasItsBits}
use Rattle.vs_typed.specs.Weights.{capped, told_weight}
use Rattle.vs_typed.proofs.Distinct.{ascending_count}
use Rattle.vs_flat.specs.Trees.{signal_at, no_signal}

next_item : {A : Type 0} (xs : List A) (n : ℕ) (x : A) → slice_get xs n ≡ Some x → take (n + 1) xs ≡ take n xs ++ x ∷ []
next_item xs n x h = take_more xs n x (slice_get_within xs n x h) ∙ ap (λ y. take n xs ++ y ∷ []) (get_or_from_slice_get xs n x x h)

sum_more : {A : Type 0} (f : A → ℕ) (xs : List A) (x : A) → sum_by f (xs ++ x ∷ []) ≡ sum_by f xs + f x
sum_more f [] x = sum_by-cons f x [] ∙ omega arith
sum_more f (y ∷ ys) x =
    let e = sum_by-cons f y (ys ++ x ∷ []) in
    let g = sum_by-cons f y ys in
    let k = sum_more f ys x in
    omega (arith, e, g, k)

-- one process more
pub sum_step : (f : Process → ℕ) (ps : List Process) (p start sum after : ℕ) → p < length ps → sum ≡ capped (start + sum_by f (take p ps)) → ((x : Process) → slice_get ps p ≡ Some x → after ≡ capped (sum + f x)) → after ≡ capped (start + sum_by f (take (p + 1) ps))
sum_step f [] p start sum after inside e h = absurd (omega arith)
sum_step f (y ∷ ys) p start sum after inside e h =
    let ps = y ∷ ys in
    let x = get_or ps p y in
    let at : slice_get ps p ≡ Some x = slice_get-get_or ps p y inside in
    let whole : sum_by f (take (p + 1) ps) ≡ sum_by f (take p ps) + f x = ap (sum_by f) (next_item ps p x at) ∙ sum_more f (take p ps) x in
    omega (arith, e, h x at, whole)

pub sum_all : (f : Process → ℕ) (ps : List Process) (p start sum : ℕ) → length ps ≤ p → sum ≡ capped (start + sum_by f (take p ps)) → sum ≡ capped (start + sum_by f ps)
sum_all f ps p start sum h e = e ∙ ap (λ qs. capped (start + sum_by f qs)) (take_all p ps h)

-- the weights of processes, one more
pub weights_step : (ps : List Process) (p : ℕ) (old new : List ℕ) (w : ℕ) → p < length ps → old ≡ map told_weight (take p ps) → new ≡ old ++ w ∷ [] → ((x : Process) → slice_get ps p ≡ Some x → w ≡ capped (0 + process_weight x))
    → new ≡ map told_weight (take (p + 1) ps)
weights_step [] p old new w inside e h k = absurd (omega arith)
weights_step (y ∷ ys) p old new w inside e h k =
    let ps = y ∷ ys in
    let x = get_or ps p y in
    let at : slice_get ps p ≡ Some x = slice_get-get_or ps p y inside in
    let is : w ≡ told_weight x = omega (arith, k x at) in
    h ∙ ap₂ (λ ws v. ws ++ v ∷ []) e is ∙ sym (ap (map told_weight) (next_item ps p x at) ∙ map-append told_weight (take p ps) (x ∷ []))

pub weights_all : (ps : List Process) (p : ℕ) (weights : List ℕ) → length ps ≤ p → weights ≡ map told_weight (take p ps) → weights ≡ map told_weight ps
weights_all ps p weights h e = e ∙ ap (map told_weight) (take_all p ps h)

-- ---- bits of processes and of signals, one more

module _ {A : Type 0} (of : A → List ℕ) (all : List A → List ℕ) (none : all [] ≡ []) (one : (x : A) (xs : List A) → all (x ∷ xs) ≡ of x ++ all xs) where
  more : (xs : List A) (x : A) → all (xs ++ x ∷ []) ≡ all xs ++ of x
  more [] x = one x [] ∙ ap (λ bs. of x ++ bs) none ∙ append-nil (of x) ∙ ap (λ bs. bs ++ of x) (sym none)
  more (y ∷ xs) x = one y (xs ++ x ∷ []) ∙ ap (λ bs. of y ++ bs) (more xs x) ∙ sym (append_assoc (of y) (all xs) (of x)) ∙ ap (λ bs. bs ++ of x) (sym (one y xs))

  noted : (start : List ℕ) (xs : List A) (n : ℕ) (x : A) (old new : List ℕ) → slice_get xs n ≡ Some x → old ≡ start ++ all (take n xs) → new ≡ old ++ of x → new ≡ start ++ all (take (n + 1) xs)
  noted start xs n x old new at e h =
      h ∙ ap (λ bs. bs ++ of x) e ∙ append_assoc start (all (take n xs)) (of x) ∙ ap (λ bs. start ++ bs) (sym (more (take n xs) x) ∙ ap all (sym (next_item xs n x at)))

pub registers_noted : (ps : List Process) (p : ℕ) (x : Process) (old new : List ℕ) → slice_get ps p ≡ Some x → old ≡ register_bits (take p ps) → new ≡ old ++ (if is_clocked x then writes_of x else []) → new ≡ register_bits (take (p + 1) ps)
registers_noted = noted (λ x. if is_clocked x then writes_of x else []) register_bits refl (λ p ps. refl) []

pub doubled_noted : (ps : List Process) (p : ℕ) (x : Process) (old new : List ℕ) → slice_get ps p ≡ Some x → old ≡ doubled_bits (take p ps) → new ≡ old ++ doubled x → new ≡ doubled_bits (take (p + 1) ps)
doubled_noted = noted doubled doubled_bits refl (λ p ps. refl) []

-- of memories
pub memories_noted : (start : List ℕ) (ss : List Signal) (n : ℕ) (s : Signal) (old new : List ℕ) → slice_get ss n ≡ Some s → old ≡ start ++ signals_bits (filter is_stored (take n ss)) → new ≡ old ++ (if is_stored s then bits_of_signal s else [])
    → new ≡ start ++ signals_bits (filter is_stored (take (n + 1) ss))
memories_noted = noted (λ s. if is_stored s then bits_of_signal s else []) (λ ss. signals_bits (filter is_stored ss)) refl one
  where
    one : (s : Signal) (ss : List Signal) → signals_bits (filter is_stored (s ∷ ss)) ≡ (if is_stored s then bits_of_signal s else []) ++ signals_bits (filter is_stored ss)
    one s ss = go (is_stored s)
      where
        go : (k : Bool) → signals_bits (if k then s ∷ filter is_stored ss else filter is_stored ss) ≡ (if k then bits_of_signal s else []) ++ signals_bits (filter is_stored ss)
        go true = refl
        go false = refl

-- ---- inputs

inputs_more : (ss : List Signal) (s : Signal) → sum_by signal_length (filter (λ (t : Signal). t.input) (ss ++ s ∷ [])) ≡ sum_by signal_length (filter (λ (t : Signal). t.input) ss) + (if s.input then signal_length s else 0)
inputs_more [] s = at s.input where
  at : (k : Bool) → sum_by signal_length (if k then s ∷ [] else []) ≡ 0 + (if k then signal_length s else 0)
  at true = sum_by-cons signal_length s [] ∙ omega arith
  at false = refl
inputs_more (x ∷ ss) s = at x.input (inputs_more ss s) where
  at : (k : Bool) → sum_by signal_length (filter (λ (t : Signal). t.input) (ss ++ s ∷ [])) ≡ sum_by signal_length (filter (λ (t : Signal). t.input) ss) + (if s.input then signal_length s else 0)
      → sum_by signal_length (if k then x ∷ filter (λ (t : Signal). t.input) (ss ++ s ∷ []) else filter (λ (t : Signal). t.input) (ss ++ s ∷ []))
      ≡ sum_by signal_length (if k then x ∷ filter (λ (t : Signal). t.input) ss else filter (λ (t : Signal). t.input) ss) + (if s.input then signal_length s else 0)
  at true rest =
      let e = sum_by-cons signal_length x (filter (λ (t : Signal). t.input) (ss ++ s ∷ [])) in
      let g = sum_by-cons signal_length x (filter (λ (t : Signal). t.input) ss) in
      omega (arith, e, g, rest)
  at false rest = rest

pub input_step : (ss : List Signal) (n start sum after : ℕ) (s : Signal) → n < length ss → signal_at ss n ≡ s → sum ≡ capped (start + sum_by signal_length (filter (λ (t : Signal). t.input) (take n ss))) → after ≡ capped (sum + (if s.input then signal_length s else 0))
    → after ≡ capped (start + sum_by signal_length (filter (λ (t : Signal). t.input) (take (n + 1) ss)))
input_step ss n start sum after s inside at e h =
    let whole = ap (λ ts. sum_by signal_length (filter (λ (t : Signal). t.input) ts)) (take_more ss n no_signal inside ∙ ap (λ t. take n ss ++ t ∷ []) at) ∙ inputs_more (take n ss) s in
    omega (arith, e, h, whole)

pub inputs_all : (ss : List Signal) (n start sum : ℕ) → length ss ≤ n → sum ≡ capped (start + sum_by signal_length (filter (λ (t : Signal). t.input) (take n ss))) → sum ≡ capped (start + sum_by signal_length (filter (λ (t : Signal). t.input) ss))
inputs_all ss n start sum h e = e ∙ ap (λ ts. capped (start + sum_by signal_length (filter (λ (t : Signal). t.input) ts))) (take_all n ss h)

-- ---- single processes

pub process_clocked : (place : ℕ) (star : Bool) (events : List Event) (s : Statement) → list_any has_edge events ≡ true → process_weight (Always place star events s) ≡ statement_weight s
process_clocked place star events s edge = ap (λ k. (if not k then distinct (statement_bits s) else 0) + statement_weight s) edge ∙ omega arith

pub process_combinational : (place : ℕ) (star : Bool) (events : List Event) (s : Statement) → list_any has_edge events ≡ false → process_weight (Always place star events s) ≡ distinct (statement_bits s) + statement_weight s
process_combinational place star events s level = ap (λ k. (if not k then distinct (statement_bits s) else 0) + statement_weight s) level

-- ---- sleeping blocks

has_count : (n : ℕ) (bits all : List ℕ) → HasBitsOf n bits all → bits ≡ ascending n all → length bits ≡ distinct all
has_count n bits all h e = ap length e ∙ ascending_count n all (λ b k. h.below b (h.same b ∙ k))

pub sleeper_is : EachIsOfItsProcess → EachHasItsBits → (d : Design) → IsLawfulDesign d → (p : ℕ) (x : Process) → slice_get d.processes p ≡ Some x → (asleep : Bool) → asleep ≡ is_sleeping d x
    → (if asleep then (length (waits_at (footprints_of d) p) + 1 + length (writes_at (footprints_of d) p)) else 0) ≡ sleeper_weight d x
sleeper_is lists bits d lawful p x at asleep e =
    let f = lists d p x at in
    let h = bits d lawful p x at in
    ap (λ k. if k then (length (waits_at (footprints_of d) p) + 1 + length (writes_at (footprints_of d) p)) else 0) e
    ∙ ap₂ (λ m n. if is_sleeping d x then (m + 1 + n) else 0) (has_count (bit_count d) (waits_at (footprints_of d) p) (waits_of x) h.waits f.waits) (has_count (bit_count d) (writes_at (footprints_of d) p) (writes_of x) h.writes f.writes)

-- Calls whose lists stand in an arena, and the same calls in a longer one.
use Rattle.std.proofs.Common.{◌≡◌, ℕ, ◌+◌, ◌-◌, ◌≤◌, ◌<◌, true, List, [], ◌∷◌, ◌++◌, map, length, take, drop, get_or, sum, sum_by, sym, ap, ◌∙◌, subst, refl, arith}
use Rattle.std.proofs.lemmas.List.{append_assoc, take_at, take_all, take_rest, drop_at, take-append-le, drop-append-le, length-append, length-drop, length-map, length-take-le, get_or-map, take-map, drop-map}
use Rattle.std.proofs.lemmas.List.Sums.{sum_by-cons}
use Rattle.std.proofs.lemmas.List.Elements.{All-head, All-tail, All-weaker}
use Rattle.std.specs.List.{All, concat, slice_range}
use Rattle.vs_code.specs.declared.kernels.AnyKernel.{AnyKernel}
use Rattle.vs_code.specs.declared.placed.Placed.{Placed}
use Rattle.vs_code.specs.Kernels.{cost_of, takes}
use Rattle.vs_code.specs.Calls.{Call, IsCall, lengths_of, call_cost, call_slots, length_of}
use Rattle.vs_code.specs.Placed.{IsWithin, behind, call_at, call_in_front, calls_at, cost_at, lengths_at, lengths_in, lists_in_front}
use Rattle.vs_code.proofs.Arguments.{same_call}
use Rattle.vs_code.proofs.Runs.{part_all}

sum-cons : (n : ℕ) (ns : List ℕ) → sum (n ∷ ns) ≡ n + sum ns
sum-cons n ns = sum_by-cons (λ x. x) n ns

-- ---- lists of some lengths, and what stands behind them

length-behind : (ns slots : List ℕ) → sum ns ≤ length slots → length (behind ns slots) + sum ns ≡ length slots
length-behind [] slots h = omega arith
length-behind (n ∷ ns) slots h =
    let e = sum-cons n ns in
    let l = length-drop n slots in
    omega (arith, e, l, length-behind ns (drop n slots) (omega (arith, e, l)))

lengths_in_front : (ns slots : List ℕ) → sum ns ≤ length slots → map length (lists_in_front ns slots) ≡ ns
lengths_in_front [] slots h = refl
lengths_in_front (n ∷ ns) slots h =
    let e = sum-cons n ns in
    let l = length-drop n slots in
    ap (λ m. m ∷ map length (lists_in_front ns (drop n slots))) (length-take-le n slots (omega (arith, e)))
    ∙ ap (λ (ms : List ℕ). n ∷ ms) (lengths_in_front ns (drop n slots) (omega (arith, e, l)))

-- with more behind them they are the same
lists_longer : (ns slots more : List ℕ) → sum ns ≤ length slots → lists_in_front ns (slots ++ more) ≡ lists_in_front ns slots
lists_longer [] slots more h = refl
lists_longer (n ∷ ns) slots more h =
    let e = sum-cons n ns in
    let l = length-drop n slots in
    ap (λ (xs : List ℕ). xs ∷ lists_in_front ns (drop n (slots ++ more))) (take-append-le n slots more (omega (arith, e)))
    ∙ ap (λ (xs : List ℕ). take n slots ∷ lists_in_front ns xs) (drop-append-le n slots more (omega (arith, e)))
    ∙ ap (λ (xss : List (List ℕ)). take n slots ∷ xss) (lists_longer ns (drop n slots) more (omega (arith, e, l)))

behind_longer : (ns slots more : List ℕ) → sum ns ≤ length slots → behind ns (slots ++ more) ≡ behind ns slots ++ more
behind_longer [] slots more h = refl
behind_longer (n ∷ ns) slots more h =
    let e = sum-cons n ns in
    let l = length-drop n slots in
    ap (behind ns) (drop-append-le n slots more (omega (arith, e))) ∙ behind_longer ns (drop n slots) more (omega (arith, e, l))

-- lists one behind the other are found again
lists_of_concat : (xss : List (List ℕ)) (rest : List ℕ) → lists_in_front (map length xss) (concat xss ++ rest) ≡ xss
lists_of_concat [] rest = refl
lists_of_concat (xs ∷ xss) rest =
    let e = append_assoc xs (concat xss) rest in
    ap (λ (ys : List ℕ). take (length xs) ys ∷ lists_in_front (map length xss) (drop (length xs) ys)) e
    ∙ ap (λ (ys : List ℕ). ys ∷ lists_in_front (map length xss) (drop (length xs) (xs ++ (concat xss ++ rest)))) (take_at xs (concat xss ++ rest) (length xs) refl)
    ∙ ap (λ (ys : List ℕ). xs ∷ lists_in_front (map length xss) ys) (drop_at xs (concat xss ++ rest) (length xs) refl)
    ∙ ap (λ (yss : List (List ℕ)). xs ∷ yss) (lists_of_concat xss rest)

behind_concat : (xss : List (List ℕ)) (rest : List ℕ) → behind (map length xss) (concat xss ++ rest) ≡ rest
behind_concat [] rest = refl
behind_concat (xs ∷ xss) rest =
    ap (λ (ys : List ℕ). behind (map length xss) (drop (length xs) ys)) (append_assoc xs (concat xss) rest)
    ∙ ap (behind (map length xss)) (drop_at xs (concat xss ++ rest) (length xs) refl)
    ∙ behind_concat xss rest

-- ---- a call in front

front_longer : (kernel : AnyKernel) (ns : List ℕ) (to scratch : ℕ) (slots more : List ℕ) → sum ns + (to + scratch) ≤ length slots
    → call_in_front kernel ns to scratch (slots ++ more) ≡ call_in_front kernel ns to scratch slots
front_longer kernel ns to scratch slots more h =
    let rest = behind ns slots in
    let long = length-behind ns slots (omega arith) in
    let far : behind ns (slots ++ more) ≡ rest ++ more = behind_longer ns slots more (omega arith) in
    same_call kernel (lists_in_front ns slots) (lists_in_front ns (slots ++ more)) (take to rest) (take to (behind ns (slots ++ more)))
    (take scratch (drop to rest)) (take scratch (drop to (behind ns (slots ++ more)))) (call_in_front kernel ns to scratch slots) refl
    (sym (lists_longer ns slots more (omega arith)))
    (ap (take to) far ∙ take-append-le to rest more (omega (arith, long)))
    (ap (λ (ys : List ℕ). take scratch (drop to ys)) far ∙ ap (take scratch) (drop-append-le to rest more (omega (arith, long)))
    ∙ take-append-le scratch (drop to rest) more (omega (arith, long, length-drop to rest)))

front_is : (call : Call) → call_in_front call.kernel (map length call.args) (length call.to) (length call.scratch) (call_slots call) ≡ call
front_is call =
    let ns = map length call.args in
    let rest = behind_concat call.args (call.to ++ call.scratch) in
    same_call call.kernel call.args (lists_in_front ns (call_slots call)) call.to (take (length call.to) (behind ns (call_slots call)))
    call.scratch (take (length call.scratch) (drop (length call.to) (behind ns (call_slots call)))) call refl
    (sym (lists_of_concat call.args (call.to ++ call.scratch)))
    (ap (take (length call.to)) rest ∙ take_at call.to call.scratch (length call.to) refl)
    (ap (λ (ys : List ℕ). take (length call.scratch) (drop (length call.to) ys)) rest
    ∙ ap (take (length call.scratch)) (drop_at call.to call.scratch (length call.to) refl)
    ∙ take_all (length call.scratch) call.scratch (omega arith))

-- a call whose slots were put behind an arena stands there
pub stands : (kernel : AnyKernel) (ns : List ℕ) (first to scratch : ℕ) (old new : List ℕ) (call : Call)
    → new ≡ old ++ call_slots call → first ≡ length old → kernel ≡ call.kernel → ns ≡ map length call.args → to ≡ length call.to → scratch ≡ length call.scratch
    → call_in_front kernel ns to scratch (drop first new) ≡ call
stands kernel ns first to scratch old new call e f k n t s =
    let slots : drop first new ≡ call_slots call = ap (drop first) e ∙ drop_at old (call_slots call) first (sym f) in
    ap (call_in_front kernel ns to scratch) slots
    ∙ ap (λ (x : AnyKernel). call_in_front x ns to scratch (call_slots call)) k
    ∙ ap (λ (xs : List ℕ). call_in_front call.kernel xs to scratch (call_slots call)) n
    ∙ ap (λ (x : ℕ). call_in_front call.kernel (map length call.args) x scratch (call_slots call)) t
    ∙ ap (λ (x : ℕ). call_in_front call.kernel (map length call.args) (length call.to) x (call_slots call)) s
    ∙ front_is call

-- as many slots as its lengths say
length-concat : (xss : List (List ℕ)) → sum (map length xss) ≡ length (concat xss)
length-concat [] = refl
length-concat (xs ∷ xss) = omega (arith, sum-cons (length xs) (map length xss), length-append xs (concat xss), length-concat xss)

pub fits_behind : (ns : List ℕ) (first to scratch : ℕ) (old new : List ℕ) (call : Call)
    → new ≡ old ++ call_slots call → first ≡ length old → ns ≡ map length call.args → to ≡ length call.to → scratch ≡ length call.scratch
    → first + (sum ns + (to + scratch)) ≤ length new
fits_behind ns first to scratch old new call e f n t s =
    omega (
      arith,
      ap length e,
      length-append old (call_slots call),
      length-append (concat call.args) (call.to ++ call.scratch),
      length-append call.to call.scratch,
      ap sum n,
      length-concat call.args,
    )

-- what was put behind
pub put_behind : (slots old more : List ℕ) (first : ℕ) → slots ≡ old ++ more → first ≡ length old → slice_range slots first (length slots) ≡ more
put_behind slots old more first e f = take_rest slots first ∙ ap (drop first) e ∙ drop_at old more first (sym f)

-- ---- in a longer arena

call_longer : (arena more : List ℕ) (placed : Placed) → IsWithin arena placed → call_at (arena ++ more) placed ≡ call_at arena placed
call_longer arena more placed h =
    let ns = lengths_in placed.args in
    ap (call_in_front placed.kernel ns placed.to placed.scratch) (drop-append-le placed.first arena more (omega arith))
    ∙ front_longer placed.kernel ns placed.to placed.scratch (drop placed.first arena) more (omega (arith, length-drop placed.first arena))

pub calls_longer : (arena more : List ℕ) (calls : List Placed) → All (IsWithin arena) calls → calls_at (arena ++ more) calls ≡ calls_at arena calls
calls_longer arena more [] h = refl
calls_longer arena more (placed ∷ calls) h =
    ap (λ (call : Call). call ∷ calls_at (arena ++ more) calls) (call_longer arena more placed (All-head (IsWithin arena) placed calls h))
    ∙ ap (λ (cs : List Call). call_at arena placed ∷ cs) (calls_longer arena more calls (All-tail (IsWithin arena) placed calls h))

pub within_longer : (arena more : List ℕ) (calls : List Placed) → All (IsWithin arena) calls → All (IsWithin (arena ++ more)) calls
within_longer arena more calls h =
    All-weaker (IsWithin arena) (IsWithin (arena ++ more)) (λ placed w. omega (arith, length-append arena more)) calls h

-- ---- what a call costs

lengths_are : (arena : List ℕ) (placed : Placed) → IsWithin arena placed → lengths_of (call_at arena placed) ≡ lengths_at placed
lengths_are arena placed h =
    let ns = lengths_in placed.args in
    let slots = drop placed.first arena in
    let long = length-drop placed.first arena in
    let rest = length-behind ns slots (omega (arith, long)) in
    ap (λ (ms : List ℕ). ms ++ length (take placed.to (behind ns slots)) ∷ []) (lengths_in_front ns slots (omega (arith, long)))
    ∙ ap (λ (m : ℕ). ns ++ m ∷ []) (length-take-le placed.to (behind ns slots) (omega (arith, long, rest)))

pub cost_is : (arena : List ℕ) (placed : Placed) → IsWithin arena placed → call_cost (call_at arena placed) ≡ cost_at placed
cost_is arena placed h = ap (cost_of placed.kernel) (lengths_are arena placed h)

pub takes_lengths : (arena : List ℕ) (placed : Placed) → IsWithin arena placed → IsCall (call_at arena placed) → takes placed.kernel (lengths_at placed) ≡ true
takes_lengths arena placed h call = ap (takes placed.kernel) (sym (lengths_are arena placed h)) ∙ call.lengths

costs_are : (arena : List ℕ) (calls : List Placed) → All (IsWithin arena) calls → length_of (calls_at arena calls) ≡ sum_by cost_at calls
costs_are arena [] h = refl
costs_are arena (placed ∷ calls) h =
    sum_by-cons call_cost (call_at arena placed) (calls_at arena calls)
    ∙ ap (λ n. n + length_of (calls_at arena calls)) (cost_is arena placed (All-head (IsWithin arena) placed calls h))
    ∙ ap (λ n. cost_at placed + n) (costs_are arena calls (All-tail (IsWithin arena) placed calls h))
    ∙ sym (sum_by-cons cost_at placed calls)

-- ---- one of the calls, and a part of them

pub one_at : (P : Call → Type 0) (arena : List ℕ) (calls : List Placed) (n : ℕ) (d : Placed) → n < length calls → All P (calls_at arena calls) → P (call_at arena (get_or calls n d))
one_at P arena calls n d l h =
    subst P (get_or-map (call_at arena) calls n d (call_at arena d) l) (h n (call_at arena d) (omega (arith, length-map calls (call_at arena))))

pub all_take_lengths : (arena : List ℕ) (calls : List Placed) → All (IsWithin arena) calls → All IsCall (calls_at arena calls)
    → All (λ placed. takes placed.kernel (lengths_at placed) ≡ true) calls
all_take_lengths arena calls h call = λ k d l. takes_lengths arena (get_or calls k d) (h k d l) (one_at IsCall arena calls k d l call)

pub same_at : (arena : List ℕ) (calls : List Placed) (n : ℕ) (d : Placed) → n < length calls
    → call_at arena (get_or calls n d) ≡ get_or (calls_at arena calls) n (call_at arena (get_or calls n d))
same_at arena calls n d l = sym (get_or-map (call_at arena) calls n d (call_at arena (get_or calls n d)) l)

part_at : (arena : List ℕ) (calls : List Placed) (i j : ℕ) → calls_at arena (slice_range calls i j) ≡ slice_range (calls_at arena calls) i j
part_at arena calls i j =
    sym (ap (take (j - i)) (drop-map (call_at arena) i calls) ∙ take-map (call_at arena) (j - i) (drop i calls))

pub part_is : (arena slots : List ℕ) (calls placed : List Placed) (all : List Call) (i j : ℕ) → slots ≡ arena → placed ≡ calls → calls_at arena calls ≡ all
    → calls_at slots (slice_range placed i j) ≡ slice_range all i j
part_is arena slots calls placed all i j e f g =
    ap (λ (xs : List ℕ). calls_at xs (slice_range placed i j)) e
    ∙ ap (λ (cs : List Placed). calls_at arena (slice_range cs i j)) f
    ∙ part_at arena calls i j
    ∙ ap (λ (cs : List Call). slice_range cs i j) g

pub part_costs : (arena : List ℕ) (calls : List Placed) (i j : ℕ) → All (IsWithin arena) calls
    → sum_by cost_at (slice_range calls i j) ≡ length_of (slice_range (calls_at arena calls) i j)
part_costs arena calls i j h = sym (costs_are arena (slice_range calls i j) (part_all (IsWithin arena) calls i j h)) ∙ ap length_of (part_at arena calls i j)

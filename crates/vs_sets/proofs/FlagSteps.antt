-- Flags of bits, step by step.
use Rattle.std.proofs.Common.{◌≡◌, ℕ, zero, suc, ◌+◌, ◌<◌, ◌≤◌, ◌≢◌, Bool, true, false, not, if◌then◌else◌, List, [], ◌∷◌, ◌++◌, length, map, take, get_or, set, Some, refl, sym, ap, ap₂, ◌∙◌, arith, get_or-set_other, get_or-set_same, ◌⊎◌, inl, inr}
use Rattle.std.specs.Prelude.{◌&&◌, ◌||◌, ◌==◌, nat_le, nat_lt, filter, slice_get, All}
use Rattle.std.specs.List.{list_all, list_any}
use Rattle.std.proofs.lemmas.Bool.Decides.{nat_tests}
use Rattle.std.proofs.lemmas.List.{take_more, take_all}
use Rattle.std.proofs.lemmas.List.Folds.{list_any-append, list_all-append}
use Rattle.std.proofs.lemmas.Option.{slice_get_within, slice_get-get_or, get_or_from_slice_get}
use Rattle.vs_design.specs.Expressions.{Signal}
use Rattle.vs_design.specs.Statements.{Statement}
use Rattle.vs_design.specs.Values.{count_from, bits_of_signal}
use Rattle.vs_design.specs.Designs as D
use Rattle.vs_design.specs.Footprints.{contains, is_variable, signals_bits, statement_bits, writes_of, waits_of, variable_bits}
use Rattle.vs_flat.specs.declared.processes.Process.{Process}
use Rattle.vs_flat.specs.declared.processes.Kind.{Kind}
use Rattle.vs_flat.specs.Arena.{Arena}
use Rattle.vs_flat.specs.Laws.{EachProcess}
use Rattle.vs_flat.specs.DesignOf.{kind_of, arena_signals, design_of}
use Rattle.vs_sets.specs.Nodes.{tree_of}
use Rattle.vs_sets.specs.StatementParts.{statement_of}
use Rattle.vs_design.specs.Initials.{initial_bits}
use Rattle.vs_design.specs.Sleepers.{most_writes, process_most, comb_bits, is_once, is_still, stays_x, is_sleeping}
use Rattle.vs_flat.specs.Trees.{signal_at, no_signal}
use Rattle.vs_sets.specs.Flags.{flag_at, AreFlags, variables_before, still_before, still_behind}
use Rattle.vs_sets.specs.Twice.{Adds, is_twice}
use Rattle.vs_sets.proofs.BranchSteps.{contains_more, or_false, or_true}
use Rattle.vs_sets.proofs.Families.{same_or_other}
use Rattle.vs_sets.proofs.Running.{all_of_each, each_of_all, same_truth}
use Rattle.vs_sets.proofs.TwiceSteps.{writes_most}

-- ---- these bits get this value

abbrev pub Marked : List ℕ → Bool → List Bool → List Bool → Type 0
Marked bits value before after = (b : ℕ) → flag_at after b ≡ (if contains bits b then value else flag_at before b)

put_flag : (flags : List Bool) (x b : ℕ) (value : Bool) → x < length flags → flag_at (set flags x value) b ≡ (if b == x then value else flag_at flags b)
put_flag flags x b value h = at (same_or_other b x) where
  at : (((b == x) ≡ true) × (b ≡ x)) ⊎ (((b == x) ≡ false) × (b ≢ x)) → get_or (set flags x value) b false ≡ (if b == x then value else get_or flags b false)
  at (inl e) = rw (e.0, e.1) (get_or-set_same flags x value false h)
  at (inr e) = rw e.0 (get_or-set_other flags x b value false e.1)

both_marks : (e k v f : Bool) → (if e then v else (if k then v else f)) ≡ (if k || e then v else f)
both_marks true true v f = refl
both_marks true false v f = refl
both_marks false true v f = refl
both_marks false false v f = refl

pub mark_step : (flags before : List Bool) (bits : List ℕ) (i : ℕ) (value : Bool) → i < length bits → get_or bits i 0 < length flags → Marked (take i bits) value before flags
    → Marked (take (i + 1) bits) value before (set flags (get_or bits i 0) value)
mark_step flags before bits i value inside within h b =
    put_flag flags (get_or bits i 0) b value within ∙ ap (λ f. if b == get_or bits i 0 then value else f) (h b) ∙ both_marks (b == get_or bits i 0) (contains (take i bits) b) value (flag_at before b)
    ∙ ap (λ k. if k then value else flag_at before b) (sym (contains_more bits i b inside))

-- ---- bits below a count

pub member : (xs : List ℕ) (k d : ℕ) → k < length xs → contains xs (get_or xs k d) ≡ true
member [] k d h = absurd (omega arith)
member (x ∷ xs) zero d h = ap (λ q. q || contains xs x) (Rattle.vs_sets.proofs.Families.equal_test x)
member (x ∷ xs) (suc k) d h = ap (λ q. (get_or xs k d == x) || q) (member xs k d (omega arith)) ∙ or_true (get_or xs k d == x)

pub all_below : (bits : List ℕ) (n : ℕ) → ((b : ℕ) → contains bits b ≡ true → b < n) → All (λ b. b < n) bits
all_below bits n h k d inside = h (get_or bits k d) (member bits k d inside)

pub count_member : (first n b : ℕ) → contains (count_from first n) b ≡ true → b < first + n
count_member first zero b h = absurd (let z : ⊥ = cc in z)
count_member first (suc n) b h = at (same_or_other b first) h (count_member (suc first) n b) where
  at : (((b == first) ≡ true) × (b ≡ first)) ⊎ (((b == first) ≡ false) × (b ≢ first)) → ((b == first) || contains (count_from (suc first) n) b) ≡ true → (contains (count_from (suc first) n) b ≡ true → b < suc first + n) → b < first + suc n
  at (inl e) h rest = omega (arith, e.1)
  at (inr e) h rest = let k = rest (sym (ap (λ q. q || contains (count_from (suc first) n) b) e.0) ∙ h) in omega (arith, k)

pub signal_below : (s : Signal) (total : ℕ) (bits : List ℕ) → bits ≡ bits_of_signal s → s.first + Rattle.vs_design.specs.Expressions.signal_length s ≤ total → All (λ b. b < total) bits
signal_below s total bits is h = all_below bits total (λ b k. let e = count_member s.first (Rattle.vs_design.specs.Expressions.signal_length s) b (ap (λ bs. contains bs b) (sym is) ∙ k) in omega (arith, e))

-- ---- variables

or_assoc : (p q r : Bool) → (p || (q || r)) ≡ ((p || q) || r)
or_assoc true q r = refl
or_assoc false q r = refl

more_bits : (xs : List Signal) (s : Signal) (b : ℕ) → contains (signals_bits (filter is_variable (xs ++ s ∷ []))) b ≡ (contains (signals_bits (filter is_variable xs)) b || (is_variable s && contains (bits_of_signal s) b))
more_bits [] s b = at (is_variable s) where
  at : (k : Bool) → contains (signals_bits (if k then s ∷ [] else [])) b ≡ (false || (k && contains (bits_of_signal s) b))
  at true = list_any-append (λ c. b == c) (bits_of_signal s) [] ∙ or_false (contains (bits_of_signal s) b)
  at false = refl
more_bits (x ∷ xs) s b = at (is_variable x) (more_bits xs s b) where
  at : (k : Bool) → contains (signals_bits (filter is_variable (xs ++ s ∷ []))) b ≡ (contains (signals_bits (filter is_variable xs)) b || (is_variable s && contains (bits_of_signal s) b))
      → contains (signals_bits (if k then x ∷ filter is_variable (xs ++ s ∷ []) else filter is_variable (xs ++ s ∷ []))) b
      ≡ (contains (signals_bits (if k then x ∷ filter is_variable xs else filter is_variable xs)) b || (is_variable s && contains (bits_of_signal s) b))
  at true rest =
      list_any-append (λ c. b == c) (bits_of_signal x) (signals_bits (filter is_variable (xs ++ s ∷ []))) ∙ ap (λ q. contains (bits_of_signal x) b || q) rest
      ∙ or_assoc (contains (bits_of_signal x) b) (contains (signals_bits (filter is_variable xs)) b) (is_variable s && contains (bits_of_signal s) b)
      ∙ ap (λ q. q || (is_variable s && contains (bits_of_signal s) b)) (sym (list_any-append (λ c. b == c) (bits_of_signal x) (signals_bits (filter is_variable xs))))
  at false rest = rest

next_bits : (ss : List Signal) (n b : ℕ) → n < length ss → contains (variables_before ss (n + 1)) b ≡ (contains (variables_before ss n) b || (is_variable (signal_at ss n) && contains (bits_of_signal (signal_at ss n)) b))
next_bits ss n b h = ap (λ xs. contains (signals_bits (filter is_variable xs)) b) (take_more ss n no_signal h) ∙ more_bits (take n ss) (signal_at ss n) b

mark_true : (k f : Bool) → (if k then true else f) ≡ (f || k)
mark_true true true = refl
mark_true true false = refl
mark_true false true = refl
mark_true false false = refl

pub variable_noted : (ss : List Signal) (n : ℕ) (flags after : List Bool) (bits : List ℕ) → n < length ss → is_variable (signal_at ss n) ≡ true → bits ≡ bits_of_signal (signal_at ss n) → Marked bits true flags after
    → AreFlags (contains (variables_before ss n)) flags → AreFlags (contains (variables_before ss (n + 1))) after
variable_noted ss n flags after bits h variable is marked before b =
    marked b ∙ mark_true (contains bits b) (flag_at flags b) ∙ ap₂ (λ p q. p || q) (before b) (ap (λ bs. contains bs b) is ∙ ap (λ k. k && contains (bits_of_signal (signal_at ss n)) b) (sym variable)) ∙ sym (next_bits ss n b h)

pub other_noted : (ss : List Signal) (n : ℕ) (flags : List Bool) → n < length ss → is_variable (signal_at ss n) ≡ false → AreFlags (contains (variables_before ss n)) flags → AreFlags (contains (variables_before ss (n + 1))) flags
other_noted ss n flags h other before b =
    before b ∙ sym (or_false (contains (variables_before ss n) b)) ∙ ap (λ k. contains (variables_before ss n) b || (k && contains (bits_of_signal (signal_at ss n)) b)) (sym other) ∙ sym (next_bits ss n b h)

-- ---- processes

and_true : (a : Bool) → (a && true) ≡ a
and_true true = refl
and_true false = refl

next_one : {X : Type 0} (ps : List X) (p : ℕ) (x : X) → slice_get ps p ≡ Some x → take (p + 1) ps ≡ take p ps ++ x ∷ []
next_one ps p x h = take_more ps p x (slice_get_within ps p x h) ∙ ap (λ y. take p ps ++ y ∷ []) (get_or_from_slice_get ps p x x h)

comb_more : (ps : List D.Process) (x : D.Process) (b : ℕ) → contains (comb_bits (ps ++ x ∷ [])) b ≡ (contains (comb_bits ps) b || contains (if D.is_combinational x then writes_of x else []) b)
comb_more [] x b = list_any-append (λ c. b == c) (if D.is_combinational x then writes_of x else []) [] ∙ or_false (contains (if D.is_combinational x then writes_of x else []) b)
comb_more (y ∷ ps) x b =
    let here = if D.is_combinational y then writes_of y else [] in
    list_any-append (λ c. b == c) here (comb_bits (ps ++ x ∷ [])) ∙ ap (λ q. contains here b || q) (comb_more ps x b) ∙ or_assoc (contains here b) (contains (comb_bits ps) b) _
    ∙ ap (λ q. q || contains (if D.is_combinational x then writes_of x else []) b) (sym (list_any-append (λ c. b == c) here (comb_bits ps)))

once_more : (ps : List D.Process) (x : D.Process) (b : ℕ) → is_once (ps ++ x ∷ []) b ≡ (is_once ps b && nat_lt (process_most x b) 2)
once_more ps x b = list_all-append (λ p. nat_lt (process_most p b) 2) ps (x ∷ []) ∙ ap (λ q. is_once ps b && q) (and_true (nat_lt (process_most x b) 2))

regroup : (v c w o m : Bool) → ((v && not (c || w)) && (o && m)) ≡ (((v && not c) && o) && (not w && m))
regroup false c w o m = refl
regroup true true w o m = refl
regroup true false true false m = refl
regroup true false false false m = refl
regroup true false true true m = refl
regroup true false false true m = refl

next_still : (d : D.Design) (p : ℕ) (x : D.Process) (b : ℕ) → slice_get d.processes p ≡ Some x
    → still_before d (p + 1) b ≡ (still_before d p b && (not (contains (if D.is_combinational x then writes_of x else []) b) && nat_lt (process_most x b) 2))
next_still d p x b h =
    let ps = take p d.processes in
    ap (λ qs. (contains (variable_bits d) b && not (contains (comb_bits qs) b)) && is_once qs b) (next_one d.processes p x h)
    ∙ ap₂ (λ q r. (contains (variable_bits d) b && not q) && r) (comb_more ps x b) (once_more ps x b)
    ∙ regroup (contains (variable_bits d) b) (contains (comb_bits ps) b) (contains (if D.is_combinational x then writes_of x else []) b) (is_once ps b) (nat_lt (process_most x b) 2)

mark_false : (k f : Bool) → (if k then false else f) ≡ (f && not k)
mark_false true true = refl
mark_false true false = refl
mark_false false true = refl
mark_false false false = refl

pub assign_noted : (d : D.Design) (p place target_place : ℕ) (port : D.Port) (target : Rattle.vs_design.specs.Statements.Target) (e : Rattle.vs_design.specs.Expressions.Expression) (flags : List Bool) → slice_get d.processes p ≡ Some (D.Continuous place port target_place target e)
    → AreFlags (still_before d p) flags → AreFlags (still_before d (p + 1)) flags
assign_noted d p place target_place port target e flags h before b = before b ∙ sym (and_true (still_before d p b)) ∙ sym (next_still d p (D.Continuous place port target_place target e) b h)

not_twice : (m : ℕ) (k : Bool) → k ≡ nat_le 2 m → not k ≡ nat_lt m 2
not_twice m true h = grind (arith, nat_tests, h)
not_twice m false h = grind (arith, nat_tests, h)

pub clocked_noted : (d : D.Design) (p place : ℕ) (star : Bool) (events : List D.Event) (s : Statement) (flags after : List Bool) (twice : List ℕ) → slice_get d.processes p ≡ Some (D.Always place star events s) → list_any D.has_edge events ≡ true
    → Adds (is_twice s) [] twice → Marked twice false flags after → AreFlags (still_before d p) flags → AreFlags (still_before d (p + 1)) after
clocked_noted d p place star events s flags after twice h edge adds marked before b =
    let x = D.Always place star events s in
    let here : (not (contains (if D.is_combinational x then writes_of x else []) b) && nat_lt (process_most x b) 2) ≡ nat_lt (most_writes s b) 2 =
    ap (λ k. not (contains (if not k then statement_bits s else []) b) && nat_lt (if k then most_writes s b else 0) 2) edge
    in
    marked b ∙ mark_false (contains twice b) (flag_at flags b) ∙ ap₂ (λ p q. p && q) (before b) (not_twice (most_writes s b) (contains twice b) (adds b))
    ∙ ap (λ q. still_before d p b && q) (sym here) ∙ sym (next_still d p x b h)

pub combinational_noted : (d : D.Design) (p place : ℕ) (star : Bool) (events : List D.Event) (s : Statement) (flags after : List Bool) (bits : List ℕ) → slice_get d.processes p ≡ Some (D.Always place star events s) → list_any D.has_edge events ≡ false
    → ((b : ℕ) → contains bits b ≡ contains (statement_bits s) b) → Marked bits false flags after → AreFlags (still_before d p) flags → AreFlags (still_before d (p + 1)) after
combinational_noted d p place star events s flags after bits h level same marked before b =
    let x = D.Always place star events s in
    let here : (not (contains (if D.is_combinational x then writes_of x else []) b) && nat_lt (process_most x b) 2) ≡ not (contains (statement_bits s) b) =
    ap (λ k. not (contains (if not k then statement_bits s else []) b) && nat_lt (if k then most_writes s b else 0) 2) level ∙ and_true (not (contains (statement_bits s) b))
    in
    marked b ∙ mark_false (contains bits b) (flag_at flags b) ∙ ap₂ (λ p q. p && q) (before b) (ap not (same b))
    ∙ ap (λ q. still_before d p b && q) (sym here) ∙ sym (next_still d p x b h)

-- ---- initial processes

pub none_behind : (d : D.Design) (p b : ℕ) → length d.processes ≤ p → still_before d p b ≡ still_behind d 0 b
none_behind d p b h = ap (λ ps. contains (variable_bits d) b && not (contains (comb_bits ps) b) && is_once ps b) (take_all p d.processes h) ∙ sym (and_true (contains (variable_bits d) b && not (contains (comb_bits d.processes) b) && is_once d.processes b))

pub all_behind : (d : D.Design) (k b : ℕ) → length d.initials ≤ k → still_behind d k b ≡ is_still d b
all_behind d k b h = ap (λ is. contains (variable_bits d) b && not (contains (comb_bits d.processes) b) && is_once d.processes b && not (contains (initial_bits is) b)) (take_all k d.initials h)

initial_more : (is : List D.Initial) (i : D.Initial) (b : ℕ) → contains (initial_bits (is ++ i ∷ [])) b ≡ (contains (initial_bits is) b || contains (statement_bits i.statement) b)
initial_more [] i b = list_any-append (λ c. b == c) (statement_bits i.statement) [] ∙ or_false (contains (statement_bits i.statement) b)
initial_more (j ∷ is) i b =
    let here = statement_bits j.statement in
    list_any-append (λ c. b == c) here (initial_bits (is ++ i ∷ [])) ∙ ap (λ q. contains here b || q) (initial_more is i b) ∙ or_assoc (contains here b) (contains (initial_bits is) b) (contains (statement_bits i.statement) b)
    ∙ ap (λ q. q || contains (statement_bits i.statement) b) (sym (list_any-append (λ c. b == c) here (initial_bits is)))

neither : (s c w : Bool) → ((s && not c) && not w) ≡ (s && not (c || w))
neither false c w = refl
neither true true w = refl
neither true false w = refl

pub initial_noted : (d : D.Design) (k : ℕ) (i : D.Initial) (flags after : List Bool) (bits : List ℕ) → slice_get d.initials k ≡ Some i → bits ≡ statement_bits i.statement → Marked bits false flags after
    → AreFlags (still_behind d k) flags → AreFlags (still_behind d (k + 1)) after
initial_noted d k i flags after bits at is marked before b =
    let still = contains (variable_bits d) b && not (contains (comb_bits d.processes) b) && is_once d.processes b in
    marked b ∙ mark_false (contains bits b) (flag_at flags b) ∙ ap₂ (λ p q. p && not q) (before b) (ap (λ bs. contains bs b) is)
    ∙ neither still (contains (initial_bits (take k d.initials)) b) (contains (statement_bits i.statement) b)
    ∙ ap (λ q. still && not q) (sym (ap (λ is. contains (initial_bits is) b) (next_one d.initials k i at) ∙ initial_more (take k d.initials) i b))

-- a bit that is written twice is written
pub twice_below : (s : Statement) (twice : List ℕ) (n : ℕ) → Adds (is_twice s) [] twice → ((b : ℕ) → contains (statement_bits s) b ≡ true → b < n) → All (λ b. b < n) twice
twice_below s twice n adds below = all_below twice n (λ b k. below b (writes_most s b ∙ once (most_writes s b) (sym (adds b) ∙ k))) where
  once : (m : ℕ) → nat_le 2 m ≡ true → nat_le 1 m ≡ true
  once m h = grind (arith, nat_tests, h)

-- the process of this number, by its kind
pub found_kind : EachProcess → (a : Arena) (p : ℕ) (process : Process) (k : Kind) → slice_get a.processes p ≡ Some process → process.kind ≡ k → slice_get (design_of a).processes p ≡ Some (kind_of (signal_at (arena_signals a)) (tree_of a) (statement_of a) process.at k)
found_kind each a p process k at is = each a p process at ∙ ap (λ j. Some (kind_of (signal_at (arena_signals a)) (tree_of a) (statement_of a) process.at j)) is

pub variables_all : (ss : List Signal) (n b : ℕ) → length ss ≤ n → contains (variables_before ss n) b ≡ contains (signals_bits (filter is_variable ss)) b
variables_all ss n b h = ap (λ xs. contains (signals_bits (filter is_variable xs)) b) (take_all n ss h)

-- ---- what sleeps

pub all_same : (p q : ℕ → Bool) (xs ys : List ℕ) → ((b : ℕ) → p b ≡ q b) → ((b : ℕ) → contains xs b ≡ contains ys b) → list_all p xs ≡ list_all q ys
all_same p q xs ys h same =
    same_truth _ _ (λ k. all_of_each q ys (λ b m. sym (h b) ∙ each_of_all p xs k b (same b ∙ m))) (λ k. all_of_each p xs (λ b m. h b ∙ each_of_all q ys k b (sym (same b) ∙ m)))

pub clocked_awake : (d : D.Design) (place : ℕ) (star : Bool) (events : List D.Event) (s : Statement) → list_any D.has_edge events ≡ true → is_sleeping d (D.Always place star events s) ≡ false
clocked_awake d place star events s edge = ap (λ k. (not k && list_all (is_still d) (waits_of (D.Always place star events s))) && not (stays_x s)) edge

pub block_sleeps : (d : D.Design) (place : ℕ) (star : Bool) (events : List D.Event) (s : Statement) (still : List Bool) (waits : List ℕ) (set quiet : Bool) → list_any D.has_edge events ≡ false
    → AreFlags (is_still d) still → ((b : ℕ) → contains waits b ≡ contains (waits_of (D.Always place star events s)) b) → set ≡ list_all (flag_at still) waits → quiet ≡ stays_x s
    → is_sleeping d (D.Always place star events s) ≡ (set && not quiet)
block_sleeps d place star events s still waits set quiet level flags same is quiet_is =
    let x = D.Always place star events s in
    ap (λ k. (not k && list_all (is_still d) (waits_of x)) && not (stays_x s)) level
    ∙ ap₂ (λ p q. p && not q) (sym (is ∙ all_same (flag_at still) (is_still d) waits (waits_of x) flags same)) (sym quiet_is)

pub unset_awake : (d : D.Design) (place : ℕ) (star : Bool) (events : List D.Event) (s : Statement) (still : List Bool) (waits : List ℕ) (set : Bool) → list_any D.has_edge events ≡ false
    → AreFlags (is_still d) still → ((b : ℕ) → contains waits b ≡ contains (waits_of (D.Always place star events s)) b) → set ≡ list_all (flag_at still) waits → set ≡ false → is_sleeping d (D.Always place star events s) ≡ false
unset_awake d place star events s still waits set level flags same is unset =
    block_sleeps d place star events s still waits set (stays_x s) level flags same is refl ∙ ap (λ k. k && not (stays_x s)) unset

-- what is told of the process of this number
pub told_of : (f : D.Process → Bool) (ps : List D.Process) (p : ℕ) (x y : D.Process) (r : Bool) → slice_get ps p ≡ Some x → slice_get ps p ≡ Some y → r ≡ f x → r ≡ f y
told_of f ps p x y r h k e = let same : x ≡ y = cc in e ∙ ap f same

map_more : (f : D.Process → Bool) (ps : List D.Process) (x : D.Process) → map f (ps ++ x ∷ []) ≡ map f ps ++ f x ∷ []
map_more f [] x = refl
map_more f (p ∷ ps) x = ap (λ zs. f p ∷ zs) (map_more f ps x)

-- one flag more
pub flag_more : (f : D.Process → Bool) (ps : List D.Process) (p : ℕ) (flags : List Bool) (r : Bool) → p < length ps → flags ≡ map f (take p ps) → ((x : D.Process) → slice_get ps p ≡ Some x → r ≡ f x) → flags ++ r ∷ [] ≡ map f (take (p + 1) ps)
flag_more f [] p flags r inside e h = absurd (omega arith)
flag_more f (y ∷ ys) p flags r inside e h =
    let ps = y ∷ ys in
    let x = get_or ps p y in
    let at : slice_get ps p ≡ Some x = slice_get-get_or ps p y inside in
    ap₂ (λ zs k. zs ++ k ∷ []) e (h x at) ∙ sym (map_more f (take p ps) x) ∙ ap (map f) (sym (next_one ps p x at))

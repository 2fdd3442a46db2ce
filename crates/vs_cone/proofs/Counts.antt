-- Stores and weights.
use Rattle.std.proofs.Common.{◌≡◌, ℕ, zero, suc, ◌+◌, ◌≤◌, ◌<◌, nat_lt, Bool, true, false, List, [], ◌∷◌, ◌++◌, ◌&&◌, ◌||◌, ◌==◌, not, if◌then◌else◌, length, Option, Some, None, sym, ap, ◌∙◌, subst, refl, eqb-true, eq-eqb, ne_eqb, arith, inl, inr, ◌⊎◌, slice_get, length-append}
use Rattle.std.specs.Prelude.{sum_by}
use Rattle.std.specs.List.{filter}
use Rattle.std.proofs.lemmas.Bool.{and_parts, both_ways}
use Rattle.std.proofs.lemmas.List.Sums.{sum_by-cons}
use Rattle.vs_net.specs.Lawful.{IsLawful}
use Rattle.vs_net.specs.Network.{writes}
use Rattle.vs_design.specs.Expressions.{Signal, signal_length}
use Rattle.vs_design.specs.Values.{count_from, bits_of_signal}
use Rattle.vs_design.specs.Statements.{Whole, PartOf, WordOf, WordPartOf, Both}
use Rattle.vs_design.specs.Designs.{Process, Continuous, Always, is_clocked, Design, top_inputs, bit_count}
use Rattle.vs_design.specs.Footprints.{contains, without, signals_bits, input_bits, memory_bits, writes_of}
use Rattle.vs_design.specs.Elaborated.{have_bits_from}
use Rattle.vs_design.specs.Clocks.{clock_bits, name_of, is_one_of, port_target, port_targets, nets_within, clock_inputs, clock_nets, own_clocks, own_nets, spare_clock, is_clock_port}
use Rattle.vs_design.specs.Sizes.{distinct, process_weight, register_bits, sleeper_weight}
use Rattle.vs_design.specs.Cycles.{AreApart}
use Rattle.vs_design.specs.Networks.{network_of}
use Rattle.vs_design.specs.Laws.{AcceptedIsLawful, LevelOrderIs}
use Rattle.vs_design.proofs.Starts.{same_order}
use Rattle.vs_cone.specs.Cones.{is_touched, writes_at, is_port_or, cone, but_ports}
use Rattle.vs_cone.specs.Given.{data_bits}
use Rattle.vs_cone.specs.Counts.{clocked_from, stores_of, AreWithin, StoresFit}
use Rattle.vs_cone.proofs.Writes.{by_test}
use Rattle.vs_cone.proofs.Processes.{in_left, in_right, contains-append, process_number, writes_are}
use Rattle.vs_cone.proofs.Lists.{distinct_more}
use Rattle.vs_cone.proofs.ClockWriters.{names_place}
use Rattle.vs_cone.proofs.OwnClocks.{AreOnce, input_bit, named_once, no_nets, own_or_spare, without_less}
use Rattle.vs_cone.proofs.Given.{contains_filter, register_block}

-- ---- sums over parts of a list

sum_filter : (f : ℕ → ℕ) (test : ℕ → Bool) (ps : List ℕ) → sum_by f (filter test ps) ≤ sum_by f ps
sum_filter f test [] = omega arith
sum_filter f test (p ∷ ps) =
    let rest = sum_filter f test ps in
    by_test (test p)
    (λ e. rw e (omega (arith, sum_by-cons f p ps, sum_by-cons f p (filter test ps), rest)))
    (λ e. rw e (omega (arith, sum_by-cons f p ps, rest)))

cones_fit : (d : Design) (f : ℕ → ℕ) (changed ps : List ℕ) → sum_by f (cone d changed ps) ≤ sum_by f ps
cones_fit d f changed [] = omega arith
cones_fit d f changed (p ∷ ps) =
    by_test (is_touched d changed p)
    (λ e. rw e (let rest = cones_fit d f (writes_at d p ++ changed) ps in omega (arith, sum_by-cons f p ps, sum_by-cons f p (cone d (writes_at d p ++ changed) ps), rest)))
    (λ e. rw e (let rest = cones_fit d f changed ps in omega (arith, sum_by-cons f p ps, rest)))

-- ---- a sum over different numbers of processes is within that over all

abbrev of_or : (Process → ℕ) → Option Process → ℕ
of_or f None = 0
of_or f (Some x) = f x

-- the numbers from 1 on, each less one
abbrev less_one : List ℕ → List ℕ
less_one [] = []
less_one (zero ∷ ps) = less_one ps
less_one (suc p ∷ ps) = p ∷ less_one ps

less_has : (p : ℕ) (ps : List ℕ) → contains (less_one ps) p ≡ contains ps (suc p)
less_has p [] = refl
less_has p (zero ∷ ps) = less_has p ps ∙ ap (λ c. c || contains ps (suc p)) (sym (ne_eqb (suc p) 0 (λ e. absurd (omega (arith, e)))))
less_has p (suc q ∷ ps) = ap (λ c. (p == q) || c) (less_has p ps) ∙ ap (λ c. c || contains ps (suc p)) (same_test p q)
  where
    same_test : (p q : ℕ) → (p == q) ≡ (suc p == suc q)
    same_test p q = by_test (p == q)
        (λ e. e ∙ sym (eq-eqb (suc p) (suc q) (ap suc (eqb-true p q e))))
        (λ e. e ∙ sym (ne_eqb (suc p) (suc q) (λ h. both_ways (p == q) e (eq-eqb p q (omega (arith, h))))))

less_apart : (ps : List ℕ) → AreApart ps → AreApart (less_one ps)
less_apart [] h = tt
less_apart (zero ∷ ps) h = less_apart ps h.1
less_apart (suc p ∷ ps) h = (less_has p ps ∙ h.0, less_apart ps h.1)

-- without 0 the sum goes over the later processes
split_sum : (f : Process → ℕ) (x : Process) (xs : List Process) (ps : List ℕ) → AreApart ps
    → sum_by (λ p. of_or f (slice_get (x ∷ xs) p)) ps ≡ (if contains ps 0 then f x else 0) + sum_by (λ p. of_or f (slice_get xs p)) (less_one ps)
split_sum f x xs [] h = omega arith
split_sum f x xs (zero ∷ ps) h =
    let rest = split_sum f x xs ps h.1 in
    let none : (if contains ps 0 then f x else 0) ≡ 0 = ap (λ (c : Bool). if c then f x else 0) h.0 in
    let full : (if contains (0 ∷ ps) 0 then f x else 0) ≡ f x = ap (λ (c : Bool). if c || contains ps 0 then f x else 0) (eq-eqb 0 0 refl) in
    let here = sum_by-cons (λ p. of_or f (slice_get (x ∷ xs) p)) 0 ps in
    omega (arith, rest, none, full, here)
split_sum f x xs (suc p ∷ ps) h =
    let rest = split_sum f x xs ps h.1 in
    let same : (if contains (suc p ∷ ps) 0 then f x else 0) ≡ (if contains ps 0 then f x else 0) = ap (λ (c : Bool). if c || contains ps 0 then f x else 0) (ne_eqb 0 (suc p) (λ e. absurd (omega (arith, e)))) in
    let here = sum_by-cons (λ q. of_or f (slice_get (x ∷ xs) q)) (suc p) ps in
    let there = sum_by-cons (λ q. of_or f (slice_get xs q)) p (less_one ps) in
    omega (arith, rest, same, here, there)

sum_none : (f : Process → ℕ) (ps : List ℕ) → sum_by (λ p. of_or f (slice_get [] p)) ps ≡ 0
sum_none f [] = refl
sum_none f (p ∷ ps) = let rest = sum_none f ps in let here = sum_by-cons (λ q. of_or f (slice_get [] q)) p ps in omega (arith, rest, here)

sum_apart : (f : Process → ℕ) (xs : List Process) (ps : List ℕ) → AreApart ps → sum_by (λ p. of_or f (slice_get xs p)) ps ≤ sum_by f xs
sum_apart f [] ps h = let none = sum_none f ps in omega arith
sum_apart f (x ∷ xs) ps h =
    let rest = sum_apart f xs (less_one ps) (less_apart ps h) in
    let split = split_sum f x xs ps h in
    let bound = within (contains ps 0) (f x) in
    omega (arith, rest, split, bound, sum_by-cons f x xs)
  where
    within : (c : Bool) (n : ℕ) → (if c then n else 0) ≤ n
    within true n = omega arith
    within false n = omega arith

-- ---- ports

abbrev Sub : List ℕ → List ℕ → Type 0
Sub xs ys = (b : ℕ) → contains xs b ≡ true → contains ys b ≡ true

one_of_more : (nets more : List ℕ) → Sub nets more → (o : Option Signal) → is_one_of nets o ≡ true → is_one_of more o ≡ true
one_of_more nets more sub None h = cc
one_of_more nets more sub (Some s) h =
    let parts = and_parts (signal_length s == 1) (contains nets s.first) h in
    ap (λ c. c && contains more s.first) parts.0 ∙ sub s.first parts.1

target_same : (nets more : List ℕ) → Sub nets more → (x : Process) → (port_target nets x ≡ []) ⊎ (port_target nets x ≡ port_target more x)
target_same nets more sub (Continuous place way target_place (Whole signal) e) =
    by_test (is_one_of nets (name_of e) && (signal_length signal == 1))
    (λ h.
    let parts = and_parts (is_one_of nets (name_of e)) (signal_length signal == 1) h in
    let also : (is_one_of more (name_of e) && (signal_length signal == 1)) ≡ true = ap (λ c. c && (signal_length signal == 1)) (one_of_more nets more sub (name_of e) parts.0) ∙ parts.1 in
    inr (ap (λ (c : Bool). if c then (signal.first ∷ []) else []) (h ∙ sym also)))
    (λ h. inl (ap (λ (c : Bool). if c then (signal.first ∷ []) else []) h))
target_same nets more sub (Continuous place way target_place (PartOf signal part index) e) = inl refl
target_same nets more sub (Continuous place way target_place (WordOf signal index) e) = inl refl
target_same nets more sub (Continuous place way target_place (WordPartOf signal address part index) e) = inl refl
target_same nets more sub (Continuous place way target_place (Both high low) e) = inl refl
target_same nets more sub (Always place star events statement) = inl refl

targets_more : (nets more : List ℕ) → Sub nets more → (xs : List Process) → Sub (port_targets nets xs) (port_targets more xs)
targets_more nets more sub [] b h = cc
targets_more nets more sub (x ∷ xs) b h =
    by_test (contains (port_targets nets xs) b)
    (λ e. in_right (port_target more x) (port_targets more xs) b (targets_more nets more sub xs b e))
    (λ e. elim (target_same nets more sub x) [
      | inl none ↦ absurd (both_ways (contains (port_targets nets (x ∷ xs)) b) (contains-append (port_target nets x) (port_targets nets xs) b ∙ ap (λ c. c || contains (port_targets nets xs) b) (ap (λ bs. contains bs b) none) ∙ e) h)
      | inr same ↦ in_left (port_target more x) (port_targets more xs) b (sym (ap (λ bs. contains bs b) same) ∙ left (contains (port_target nets x) b) (contains (port_targets nets xs) b) (sym (contains-append (port_target nets x) (port_targets nets xs) b) ∙ h) e)
    ])
  where
    left : (u v : Bool) → (u || v) ≡ true → v ≡ false → u ≡ true
    left true v x y = refl
    left false v x y = cc

nets_more : (k : ℕ) (xs : List Process) (clocks : List ℕ) → Sub (nets_within k xs clocks) (nets_within (suc k) xs clocks)
nets_more zero xs clocks b h = in_left clocks (port_targets clocks xs) b h
nets_more (suc k) xs clocks b h =
    by_test (contains clocks b)
    (λ e. in_left clocks (port_targets (nets_within (suc k) xs clocks) xs) b e)
    (λ e. in_right clocks (port_targets (nets_within (suc k) xs clocks) xs) b (targets_more (nets_within k xs clocks) (nets_within (suc k) xs clocks) (nets_more k xs clocks) xs b (subst (λ c. (c || contains (port_targets (nets_within k xs clocks) xs) b) ≡ true) e (sym (contains-append clocks (port_targets (nets_within k xs clocks) xs) b) ∙ h))))

-- how many bits a port drives: one
port_count : List ℕ → Process → ℕ
port_count nets x = length (port_target nets x)

targets_count : (nets more : List ℕ) → Sub nets more → (xs : List Process) → length (port_targets nets xs) ≤ sum_by (port_count more) xs
unfolding port_count
targets_count nets more sub [] = omega arith
targets_count nets more sub (x ∷ xs) =
    let rest = targets_count nets more sub xs in
    let both = length-append (port_target nets x) (port_targets nets xs) in
    let all = sum_by-cons (port_count more) x xs in
    elim (target_same nets more sub x) [
      | inl none ↦ let zero : length (port_target nets x) ≡ 0 = ap length none in omega (arith, rest, both, all, zero)
      | inr same ↦ let len : length (port_target nets x) ≡ length (port_target more x) = ap length same in omega (arith, rest, both, all, len)
    ]

nets_count : (d : Design) (clocks : List ℕ) → length (clock_nets d clocks) ≤ length clocks + sum_by (port_count (clock_nets d clocks)) d.processes
nets_count d clocks = go (length d.processes)
  where
    go : (k : ℕ) → length (nets_within k d.processes clocks) ≤ length clocks + sum_by (port_count (nets_within k d.processes clocks)) d.processes
    go zero = omega arith
    go (suc k) =
        let h = targets_count (nets_within k d.processes clocks) (nets_within (suc k) d.processes clocks) (nets_more k d.processes clocks) d.processes in
        let both = length-append clocks (port_targets (nets_within k d.processes clocks) d.processes) in
        omega (arith, h, both)

-- ---- what each process adds

-- what a process that settles and isn't a port may store
own_stores : Design → List ℕ → Process → ℕ
own_stores d nets x = if is_clocked x then 0 else (if is_clock_port nets x then 0 else (process_weight x + sleeper_weight d x))

block_stores : Design → Process → ℕ
block_stores d x = if is_clocked x then stores_of d x else 0

block_bits : Process → ℕ
block_bits x = if is_clocked x then distinct (writes_of x) else 0

-- own stores, a port's bit and a clocked block's stores are within the weight and the clocked block's bits
each_weighs : (d : Design) (nets : List ℕ) (x : Process) → own_stores d nets x + port_count nets x + block_stores d x ≤ process_weight x + block_bits x + sleeper_weight d x
unfolding own_stores port_count block_stores block_bits
each_weighs d nets (Continuous place way target_place (Whole signal) e) =
    by_test (is_one_of nets (name_of e) && (signal_length signal == 1))
    (λ h.
    let one : signal_length signal ≡ 1 = eqb-true (signal_length signal) 1 (and_parts (is_one_of nets (name_of e)) (signal_length signal == 1) h).1 in
    rw h (omega (arith, one)))
    (λ h. rw h (omega arith))
each_weighs d nets (Continuous place way target_place (PartOf signal part index) e) = omega arith
each_weighs d nets (Continuous place way target_place (WordOf signal index) e) = omega arith
each_weighs d nets (Continuous place way target_place (WordPartOf signal address part index) e) = omega arith
each_weighs d nets (Continuous place way target_place (Both high low) e) = omega arith
each_weighs d nets (Always place star events statement) =
    by_test (is_clocked (Always place star events statement))
    (λ h. rw h (omega arith))
    (λ h. rw h (omega arith))

all_weigh : (d : Design) (nets : List ℕ) (xs : List Process) → sum_by (own_stores d nets) xs + sum_by (port_count nets) xs + sum_by (block_stores d) xs ≤ sum_by process_weight xs + sum_by block_bits xs + sum_by (sleeper_weight d) xs
all_weigh d nets [] = omega arith
all_weigh d nets (x ∷ xs) =
    omega (arith, all_weigh d nets xs, each_weighs d nets x, sum_by-cons (own_stores d nets) x xs, sum_by-cons (port_count nets) x xs, sum_by-cons (block_stores d) x xs, sum_by-cons (sleeper_weight d) x xs, sum_by-cons process_weight x xs, sum_by-cons block_bits x xs)

-- ---- the assigns and combinational blocks of an order

but_fits : (d : Design) (clocks : List ℕ) (stores : ℕ → ℕ) → AreWithin d stores → (ps : List ℕ)
    → ((p : ℕ) → contains ps p ≡ true → (x : Process) × (slice_get d.processes p ≡ Some x) × (is_clocked x ≡ false))
    → sum_by stores (but_ports d clocks ps) ≤ sum_by (λ p. of_or (own_stores d (clock_nets d clocks)) (slice_get d.processes p)) ps
unfolding own_stores
but_fits d clocks stores within [] h = omega arith
but_fits d clocks stores within (p ∷ ps) h =
    let rest = but_fits d clocks stores within ps (λ q k. h q (in_right (p ∷ []) ps q k)) in
    let r = h p (in_left (p ∷ []) ps p (ap (λ c. c || false) (eq-eqb p p refl))) in
    let sum = sum_by-cons (λ q. of_or (own_stores d (clock_nets d clocks)) (slice_get d.processes q)) p ps in
    by_test (is_port_or (clock_nets d clocks) (slice_get d.processes p))
    (λ e. rw e (omega (arith, rest, sum)))
    (λ e.
    let bound = within.each p r.0 r.1 in
    let here : stores_of d r.0 ≡ process_weight r.0 + 0 + sleeper_weight d r.0 = ap (λ (c : Bool). process_weight r.0 + (if c then distinct (writes_of r.0) else 0) + sleeper_weight d r.0) r.2 in
    let own : of_or (own_stores d (clock_nets d clocks)) (slice_get d.processes p) ≡ process_weight r.0 + sleeper_weight d r.0 =
    ap (of_or (own_stores d (clock_nets d clocks))) r.1
    ∙ ap (λ (c : Bool). if c then 0 else (if is_clock_port (clock_nets d clocks) r.0 then 0 else (process_weight r.0 + sleeper_weight d r.0))) r.2
    ∙ ap (λ (c : Bool). if c then 0 else (process_weight r.0 + sleeper_weight d r.0)) (subst (λ o. is_port_or (clock_nets d clocks) o ≡ false) r.1 e) in
    rw e (omega (arith, rest, sum, bound, here, own, sum_by-cons stores p (but_ports d clocks ps))))

-- ---- the clocked blocks

clocked_fit : (d : Design) (stores : ℕ → ℕ) (k : ℕ) (xs : List Process) → ((j : ℕ) (x : Process) → slice_get xs j ≡ Some x → stores (k + j) ≤ stores_of d x)
    → sum_by stores (clocked_from k xs) ≤ sum_by (block_stores d) xs
unfolding block_stores
clocked_fit d stores k [] h = omega arith
clocked_fit d stores k (x ∷ xs) h =
    let rest = clocked_fit d stores (suc k) xs (λ j y e. subst (λ n. stores n ≤ stores_of d y) (next k j) (h (suc j) y e)) in
    let first : stores k ≤ stores_of d x = subst (λ n. stores n ≤ stores_of d x) (here k) (h 0 x refl) in
    let all = sum_by-cons (block_stores d) x xs in
    by_test (is_clocked x)
    (λ e.
    let block : block_stores d x ≡ stores_of d x = ap (λ (c : Bool). if c then stores_of d x else 0) e in
    let total : sum_by stores (clocked_from k (x ∷ xs)) ≡ sum_by stores (k ∷ clocked_from (suc k) xs) = ap (λ (c : Bool). sum_by stores (if c then (k ∷ clocked_from (suc k) xs) else clocked_from (suc k) xs)) e in
    omega (arith, rest, first, all, block, total, sum_by-cons stores k (clocked_from (suc k) xs)))
    (λ e.
    let total : sum_by stores (clocked_from k (x ∷ xs)) ≡ sum_by stores (clocked_from (suc k) xs) = ap (λ (c : Bool). sum_by stores (if c then (k ∷ clocked_from (suc k) xs) else clocked_from (suc k) xs)) e in
    let block : block_stores d x ≡ 0 = ap (λ (c : Bool). if c then stores_of d x else 0) e in
    omega (arith, rest, all, total, block))
  where
    next : (k j : ℕ) → k + suc j ≡ suc k + j
    next k j = omega arith

    here : (k : ℕ) → k + 0 ≡ k
    here k = omega arith

distinct_append : (xs ys : List ℕ) → ((b : ℕ) → contains xs b ≡ true → contains ys b ≡ false) → distinct (xs ++ ys) ≡ distinct xs + distinct ys
distinct_append [] ys apart = omega arith
distinct_append (x ∷ xs) ys apart =
    let rest = distinct_append xs ys (λ b h. apart b (in_right (x ∷ []) xs b h)) in
    let other : contains ys x ≡ false = apart x (in_left (x ∷ []) xs x (ap (λ c. c || false) (eq-eqb x x refl))) in
    let same : ◌≡◌ {A = ℕ} (if contains (xs ++ ys) x then 0 else 1) (if contains xs x then 0 else 1) = ap (λ (c : Bool). if c then 0 else 1) (contains-append xs ys x ∙ ap (λ c. contains xs x || c) other ∙ or_false (contains xs x)) in
    omega (arith, rest, same)
  where
    or_false : (a : Bool) → (a || false) ≡ a
    or_false true = refl
    or_false false = refl

-- no two processes write one bit
abbrev AreSole : List Process → Type 0
AreSole xs = (i j : ℕ) (x y : Process) (b : ℕ) → slice_get xs i ≡ Some x → slice_get xs j ≡ Some y → contains (writes_of x) b ≡ true → contains (writes_of y) b ≡ true → i ≡ j

bits_fit : (xs : List Process) → AreSole xs → sum_by block_bits xs ≤ distinct (register_bits xs)
unfolding block_bits
bits_fit [] sole = omega arith
bits_fit (x ∷ xs) sole =
    let rest = bits_fit xs (λ i j y z b e f u v. pred (sole (suc i) (suc j) y z b e f u v)) in
    let all = sum_by-cons block_bits x xs in
    by_test (is_clocked x)
    (λ e.
    let both : distinct (writes_of x ++ register_bits xs) ≡ distinct (writes_of x) + distinct (register_bits xs) =
    distinct_append (writes_of x) (register_bits xs) (λ b h. by_test (contains (register_bits xs) b) (λ k. let r = register_block xs b k in absurd (no_zero (sole 0 (suc r.0) x r.1 b refl r.2 h r.4))) (λ k. k)) in
    let block : block_bits x ≡ distinct (writes_of x) = ap (λ (c : Bool). if c then distinct (writes_of x) else 0) e in
    let total : distinct (register_bits (x ∷ xs)) ≡ distinct (writes_of x ++ register_bits xs) = ap (λ (c : Bool). distinct ((if c then writes_of x else []) ++ register_bits xs)) e in
    omega (arith, rest, all, both, block, total))
    (λ e.
    let block : block_bits x ≡ 0 = ap (λ (c : Bool). if c then distinct (writes_of x) else 0) e in
    let total : distinct (register_bits (x ∷ xs)) ≡ distinct (register_bits xs) = ap (λ (c : Bool). distinct ((if c then writes_of x else []) ++ register_bits xs)) e in
    omega (arith, rest, all, block, total))
  where
    pred : {m n : ℕ} → suc m ≡ suc n → m ≡ n
    pred e = omega (arith, e)

    no_zero : {n : ℕ} → 0 ≡ suc n → ⊥
    no_zero e = omega (arith, e)

-- ---- the inputs

length-count_from : (first n : ℕ) → length (count_from first n) ≡ n
length-count_from first zero = refl
length-count_from first (suc n) = ap suc (length-count_from (suc first) n)

length-signals_bits : (ss : List Signal) → length (signals_bits ss) ≡ sum_by signal_length ss
length-signals_bits [] = refl
length-signals_bits (s ∷ ss) =
    omega (arith, sum_by-cons signal_length s ss, length-signals_bits ss, length-append (bits_of_signal s) (signals_bits ss), length-count_from s.first (signal_length s))

fewer : (bs : List ℕ) (c : ℕ) → length (without bs (c ∷ [])) + (if contains bs c then 1 else 0) ≤ length bs
fewer [] c = omega arith
fewer (b ∷ bs) c =
    by_test (b == c)
    (λ e. rw e (ap_le (eq-eqb c b (sym (eqb-true b c e))) (fewer bs c)))
    (λ e. rw e (other (c == b) refl e (fewer bs c)))
  where
    ap_le : (c == b) ≡ true → length (without bs (c ∷ [])) + (if contains bs c then 1 else 0) ≤ length bs → length (without bs (c ∷ [])) + (if (c == b) || contains bs c then 1 else 0) ≤ suc (length bs)
    ap_le e h = rw e (go (contains bs c) h)
      where
        go : (k : Bool) → length (without bs (c ∷ [])) + (if k then 1 else 0) ≤ length bs → length (without bs (c ∷ [])) + 1 ≤ suc (length bs)
        go true h = omega arith
        go false h = omega arith

    other : (k : Bool) → (c == b) ≡ k → (b == c) ≡ false → length (without bs (c ∷ [])) + (if contains bs c then 1 else 0) ≤ length bs
        → suc (length (without bs (c ∷ []))) + (if k || contains bs c then 1 else 0) ≤ suc (length bs)
    other true e f h = let g : (b == c) ≡ true = eq-eqb b c (sym (eqb-true c b e)) in cc
    other false e f h = omega arith

-- no bits are more without some of them
data_few : (bs cs : List ℕ) → length (without bs cs) ≤ length bs
data_few [] cs = omega arith
data_few (b ∷ bs) cs =
    let rest = data_few bs cs in
    by_test (contains cs b) (λ e. rw e (omega (arith, rest))) (λ e. rw e (omega (arith, rest)))

-- clocks that are among the bits, each once, are no more among what is left
without_fewer : (cs bs : List ℕ) → AreOnce cs → ((c : ℕ) → contains cs c ≡ true → contains bs c ≡ true) → length (without bs cs) + length cs ≤ length bs
without_fewer [] bs once has = omega (arith, without_none bs)
  where
    without_none : (bs : List ℕ) → length (without bs []) ≡ length bs
    without_none [] = refl
    without_none (b ∷ bs) = ap suc (without_none bs)
without_fewer (c ∷ cs) bs once has =
    let here : contains bs c ≡ true = has c (ap (λ t. t || contains cs c) (eq-eqb c c refl)) in
    let less : length (without bs (c ∷ [])) + 1 ≤ length bs = subst (λ (k : Bool). length (without bs (c ∷ [])) + (if k then 1 else 0) ≤ length bs) here (fewer bs c) in
    let rest = without_fewer cs (without bs (c ∷ [])) once.1 (λ b h. left_there b h) in
    let same = without_less bs cs c in
    omega (arith, less, rest, same)
  where
    or_later : (u v : Bool) → v ≡ true → (u || v) ≡ true
    or_later true v h = refl
    or_later false v h = h

    left_there : (b : ℕ) → contains cs b ≡ true → contains (without bs (c ∷ [])) b ≡ true
    left_there b h =
        let apart : (b == c) ≡ false = by_test (b == c) (λ e. absurd (both_ways (contains cs c) once.0 (subst (λ k. contains cs k ≡ true) (eqb-true b c e) h))) (λ e. e) in
        contains_filter (λ k. not (contains (c ∷ []) k)) bs b
        ∙ ap (λ t. t && not ((b == c) || false)) (has b (or_later (b == c) (contains cs b) h))
        ∙ ap (λ t. not (t || false)) apart

same_signals : (xs ys : List Signal) → Some xs ≡ Some ys → xs ≡ ys
same_signals xs ys e = cc

-- the data inputs and the clock nets are within the inputs and the ports of the clocks
inputs_count : (d : Design) → have_bits_from 0 d.signals ≡ true → (names : List (List ℕ)) (ss : List Signal) → clock_inputs d names ≡ Some ss
    → length (data_bits d (clock_bits ss)) + length (own_nets d (clock_bits ss)) ≤ sum_by signal_length (top_inputs d) + sum_by (port_count (clock_nets d (clock_bits ss))) d.processes
inputs_count d numbered [] ss h = elim (own_or_spare d [] ss h numbered) [
  | inl all ↦ absurd (let is = same_signals (spare_clock d ∷ []) ss h in spare_not_own d (subst (λ (xs : List Signal). own_clocks d (clock_bits xs) ≡ clock_bits xs) (sym is) all))
  | inr spare ↦
      let none : length (own_nets d (clock_bits ss)) ≡ 0 = ap (λ (cs : List ℕ). length (clock_nets d cs)) spare.0 ∙ ap length (no_nets (length d.processes) d.processes) in
      let few = data_few (input_bits d) (clock_bits ss) in
      let all = length-signals_bits (top_inputs d) in
      omega (arith, all, few, none)
]
  where
    spare_not_own : (d : Design) → own_clocks d (bit_count d ∷ []) ≡ bit_count d ∷ [] → ⊥
    spare_not_own d h =
        let off : nat_lt (bit_count d) (bit_count d) ≡ false = not_below (bit_count d) in
        let k : [] ≡ bit_count d ∷ [] = subst (λ (t : Bool). (if t then (bit_count d ∷ []) else []) ≡ bit_count d ∷ []) off h in cc
      where
        not_below : (n : ℕ) → nat_lt n n ≡ false
        not_below n = grind arith
inputs_count d numbered (name ∷ names) ss h = elim (own_or_spare d (name ∷ names) ss h numbered) [
  | inl all ↦
      let few = without_fewer (clock_bits ss) (input_bits d) (named_once d numbered (name ∷ names) ss h) (λ c k. input_bit d c (names_place d (name ∷ names) ss h c k)) in
      let own : length (own_nets d (clock_bits ss)) ≡ length (clock_nets d (clock_bits ss)) = ap (λ (cs : List ℕ). length (clock_nets d cs)) all in
      let inputs = length-signals_bits (top_inputs d) in
      omega (arith, inputs, few, own, nets_count d (clock_bits ss))
  | inr spare ↦
      let none : length (own_nets d (clock_bits ss)) ≡ 0 = ap (λ (cs : List ℕ). length (clock_nets d cs)) spare.0 ∙ ap length (no_nets (length d.processes) d.processes) in
      let few = data_few (input_bits d) (clock_bits ss) in
      let all = length-signals_bits (top_inputs d) in
      omega (arith, all, few, none)
]

-- ---- all together

pub stores_fit : AcceptedIsLawful → LevelOrderIs → StoresFit
stores_fit lawful levels d names a order ordered stores resets within resetting =
    let L : IsLawful (network_of d (clock_bits a.clocks)) = lawful d names a d.initials (same_order d.initials) in
    let o = levels d order ordered in
    let own = but_fits d (clock_bits a.clocks) stores within order (λ p h. (o.members p).0 h) in
    let apart = sum_apart (own_stores d (clock_nets d (clock_bits a.clocks))) d.processes order o.once in
    let weighed = all_weigh d (clock_nets d (clock_bits a.clocks)) d.processes in
    let blocks = clocked_fit d stores 0 d.processes (λ j x e. subst (λ n. stores n ≤ stores_of d x) (zero_add j) (within.each j x e)) in
    let zeroed = clocked_fit d resets 0 d.processes (λ j x e. subst (λ n. resets n ≤ stores_of d x) (zero_add j) (resetting.each j x e)) in
    let bits = bits_fit d.processes (sole L) in
    let inputs = inputs_count d a.lawful.bits_numbered names a.clocks a.clocks_found in
    let registers = distinct_more (register_bits d.processes) (register_bits d.processes ++ memory_bits d) (λ b h. in_left (register_bits d.processes) (memory_bits d) b h) in
    record {
      fall = omega (arith, own, apart, weighed, zeroed, bits, inputs, registers);
      rise = omega (arith, own, apart, weighed, blocks, bits, inputs, registers);
      cones = λ changed. cones_fit d stores changed (but_ports d (clock_bits a.clocks) order);
    }
  where
    zero_add : (j : ℕ) → j ≡ 0 + j
    zero_add j = omega arith

    sole : IsLawful (network_of d (clock_bits a.clocks)) → AreSole d.processes
    sole L i j x y b e f u v =
        sym (L.one_writer i j b
        (ap (λ q. writes q b) (process_number d (clock_bits a.clocks) i x e) ∙ writes_are d (clock_bits a.clocks) x b ∙ u)
        (ap (λ q. writes q b) (process_number d (clock_bits a.clocks) j y f) ∙ writes_are d (clock_bits a.clocks) y b ∙ v))

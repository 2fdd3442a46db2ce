-- Sleeping blocks: writes of x, and the masks' places.
use Rattle.std.proofs.Common.{◌≡◌, ℕ, zero, suc, ◌+◌, ◌<◌, ◌≤◌, Bool, true, false, not, List, [], ◌∷◌, ◌&&◌, ◌||◌, ◌==◌, Option, Some, None, length, sym, ap, ◌∙◌, subst, refl, arith, eqb-true, eq-eqb, if◌then◌else◌, slice_get}
use Rattle.std.specs.Prelude.{sum_by, All}
use Rattle.std.specs.List.{list_any}
use Rattle.std.proofs.lemmas.Bool.{both_ways, and_parts}
use Rattle.std.proofs.lemmas.List.Sums.{sum_by-cons}
use mathlib.Core.Path.{fun_ext}
use Rattle.vs_four.specs.declared.Bit4.{Bit4}
use Rattle.vs_four.specs.declared.Bit4.TheVariants.{Zero, One, X, Z}
use Rattle.vs_four.specs.Tables.{same}
use Rattle.vs_net.specs.Network.{State, Write, write_all, is_written, Sleeper}
use Rattle.vs_net.specs.Solution.{all_x, blank}
use Rattle.vs_design.specs.Designs.{Process, Continuous, Always, is_clocked, is_combinational, Design}
use Rattle.vs_design.specs.Footprints.{contains, writes_of, waits_of}
use Rattle.vs_design.specs.Sleepers.{is_sleeping, sleeper_if, sleeper_of, sleeper_at}
use Rattle.vs_design.specs.Sizes.{sleeper_weight, process_weight, distinct}
use Rattle.vs_cone.specs.Counts.{stores_of}
use Rattle.vs_code.specs.Calls.{Call, length_of, slots_of}
use Rattle.vs_program.specs.Lowered.{Layout, IsLoweredProcess}
use Rattle.vs_program.specs.Made.{IsLoweredAs}
use Rattle.vs_program.specs.Layouts.{place_of, sleepers_from, sleepers}
use Rattle.vs_cone.specs.Writes.{WritesAre}
use Rattle.vs_program.proofs.Lists.{by_test}
use Rattle.vs_program.proofs.Lists.{in_first, in_rest}
use Rattle.vs_program.proofs.Processes.{some_is}

-- writes that leave one state leave another that has the same in the bits that they write
pub left_too : WritesAre → (ws : List Write) (s t : State) → write_all t ws ≡ t → ((b : ℕ) → is_written ws b ≡ true → s b ≡ t b) → write_all s ws ≡ s
left_too law ws s t h same = fun_ext (λ b. by_test (is_written ws b)
    (λ e. law.covered ws s t b e ∙ ap (λ (f : State). f b) h ∙ sym (same b e))
    (λ e. law.other ws s b e))

-- ---- writes of x

pub blank_written : (ws : List Write) (b : ℕ) → is_written (blank ws) b ≡ is_written ws b
unfolding is_written
blank_written [] b = refl
blank_written (w ∷ ws) b = ap (λ c. (b == w.bit) || c) (blank_written ws b)

-- they leave x in each bit that they write
pub blank_value : WritesAre → (ws : List Write) (s : State) (b : ℕ) → is_written ws b ≡ true → write_all s (blank ws) b ≡ X
unfolding write_all is_written
blank_value law [] s b h = cc
blank_value law (w ∷ ws) s b h =
    by_test (is_written ws b)
    (λ e. blank_value law ws (λ r. if r == w.bit then X else s r) b e)
    (λ e. law.other (blank ws) (λ r. if r == w.bit then X else s r) b (blank_written ws b ∙ e)
    ∙ ap (λ (c : Bool). if c then X else s b) (left (b == w.bit) (is_written ws b) h e))
  where
    left : (u v : Bool) → (u || v) ≡ true → v ≡ false → u ≡ true
    left true v x y = refl
    left false v x y = cc

pub same_is : (v w : Bit4) → same v w ≡ true → v ≡ w
same_is Zero Zero h = refl
same_is One One h = refl
same_is X X h = refl
same_is Z Z h = refl
same_is Zero One h = cc
same_is Zero X h = cc
same_is Zero Z h = cc
same_is One Zero h = cc
same_is One X h = cc
same_is One Z h = cc
same_is X Zero h = cc
same_is X One h = cc
same_is X Z h = cc
same_is Z Zero h = cc
same_is Z One h = cc
same_is Z X h = cc

-- a bit of a list whose bits are all x
pub x_of_all : (s : State) (bs : List ℕ) (b : ℕ) → all_x s bs ≡ true → list_any (λ c. b == c) bs ≡ true → s b ≡ X
x_of_all s [] b h k = cc
x_of_all s (c ∷ cs) b h k =
    let parts = and_parts (same (s c) X) (all_x s cs) h in
    by_test (b == c)
    (λ e. ap s (eqb-true b c e) ∙ same_is (s c) X parts.0)
    (λ e. x_of_all s cs b parts.1 (subst (λ u. (u || list_any (λ c. b == c) cs) ≡ true) e k))

-- the other way round
pub all_of_x : (s : State) (bs : List ℕ) → ((b : ℕ) → list_any (λ c. b == c) bs ≡ true → s b ≡ X) → all_x s bs ≡ true
all_of_x s [] h = refl
all_of_x s (c ∷ cs) h =
    ap (λ u. u && all_x s cs) (ap (λ v. same v X) (h c (ap (λ u. u || list_any (λ d. c == d) cs) (eq-eqb c c refl))))
    ∙ all_of_x s cs (λ b k. h b (ap (λ u. (b == c) || u) k ∙ or_true (b == c)))
  where
    or_true : (a : Bool) → (a || true) ≡ true
    or_true true = refl
    or_true false = refl

pub all_x_same : (s t : State) (bs : List ℕ) → ((b : ℕ) → list_any (λ c. b == c) bs ≡ true → s b ≡ t b) → all_x s bs ≡ all_x t bs
all_x_same s t [] h = refl
all_x_same s t (c ∷ cs) h =
    ap (λ v. same v X && all_x s cs) (h c (ap (λ u. u || list_any (λ d. c == d) cs) (eq-eqb c c refl)))
    ∙ ap (λ u. same (t c) X && u) (all_x_same s t cs (λ b k. h b (ap (λ u. (b == c) || u) k ∙ or_true (b == c))))
  where
    or_true : (a : Bool) → (a || true) ≡ true
    or_true true = refl
    or_true false = refl

-- ---- the places of the masks

pub place_below : (bs : List ℕ) (b : ℕ) → contains bs b ≡ true → place_of bs b < length bs
place_below [] b h = cc
place_below (c ∷ cs) b h =
    by_test (b == c)
    (λ e. rw e (omega arith))
    (λ e. rw e (let r = place_below cs b (subst (λ z. (z || contains cs b) ≡ true) e h) in omega (arith, r)))

pub place_own : (bs : List ℕ) (b c : ℕ) → contains bs b ≡ true → contains bs c ≡ true → place_of bs b ≡ place_of bs c → b ≡ c
place_own [] b c h k e = cc
place_own (a ∷ rest) b c h k e =
    by_test (b == a)
    (λ x. by_test (c == a)
    (λ y. eqb-true b a x ∙ sym (eqb-true c a y))
    (λ y. absurd (apart (place_of rest c) (sym (ap (λ (z : Bool). if z then 0 else suc (place_of rest b)) x) ∙ e ∙ ap (λ (z : Bool). if z then 0 else suc (place_of rest c)) y))))
    (λ x. by_test (c == a)
    (λ y. absurd (apart (place_of rest b) (sym (sym (ap (λ (z : Bool). if z then 0 else suc (place_of rest b)) x) ∙ e ∙ ap (λ (z : Bool). if z then 0 else suc (place_of rest c)) y))))
    (λ y.
    place_own rest b c (subst (λ z. (z || contains rest b) ≡ true) x h) (subst (λ z. (z || contains rest c) ≡ true) y k)
    (pred (sym (ap (λ (z : Bool). if z then 0 else suc (place_of rest b)) x) ∙ e ∙ ap (λ (z : Bool). if z then 0 else suc (place_of rest c)) y))))
  where
    apart : (n : ℕ) → 0 ≡ suc n → ⊥
    apart n e = omega (arith, e)

    pred : {m n : ℕ} → suc m ≡ suc n → m ≡ n
    pred e = omega (arith, e)

-- a block that sleeps, by its number
pub record IsAsleepAt (d : Design) (p : ℕ) (s : Sleeper) : Type 0 where
  pub process : Process
  pub number : slice_get d.processes p ≡ Some process
  pub sleeps : is_sleeping d process ≡ true
  pub sleeper_is : s ≡ record { on = waits_of process; bits = writes_of process }

pub asleep_at : (d : Design) (p : ℕ) (s : Sleeper) → sleeper_at d p ≡ Some s → IsAsleepAt d p s
asleep_at d p s h = by_process (slice_get d.processes p) refl h
  where
    by_process : (o : Option Process) → slice_get d.processes p ≡ o → sleeper_of d o ≡ Some s → IsAsleepAt d p s
    by_process None e h = cc
    by_process (Some x) e h = by_test (is_sleeping d x)
        (λ k. record { process = x; number = e; sleeps = k; sleeper_is = sym (one (subst (λ c. sleeper_if c x ≡ Some s) k h)) })
        (λ k. absurd (never (subst (λ c. sleeper_if c x ≡ Some s) k h)))
      where
        one : {r : Sleeper} → Some r ≡ Some s → r ≡ s
        one e = cc

        never : None ≡ Some s → ⊥
        never e = cc

pub sleepers_has : (d : Design) (p : ℕ) (s : Sleeper) → sleeper_at d p ≡ Some s → contains (sleepers d) p ≡ true
sleepers_has d p s h = let r = asleep_at d p s h in subst (λ z. contains (sleepers d) z ≡ true) (zero_add p) (go 0 d.processes p r.process r.number r.sleeps)
  where
    zero_add : (q : ℕ) → 0 + q ≡ q
    zero_add q = omega arith

    go : (k : ℕ) (xs : List Process) (j : ℕ) (x : Process) → slice_get xs j ≡ Some x → is_sleeping d x ≡ true → contains (sleepers_from d k xs) (k + j) ≡ true
    go k [] j x e h = cc
    go k (y ∷ xs) zero x e h =
        let is : is_sleeping d y ≡ true = subst (λ z. is_sleeping d z ≡ true) (sym (some_is y x e)) h in
        let at : k + 0 ≡ k = omega arith in
        ap (λ (c : Bool). contains (if c then (k ∷ sleepers_from d (suc k) xs) else sleepers_from d (suc k) xs) (k + 0)) is
        ∙ ap (contains (k ∷ sleepers_from d (suc k) xs)) at ∙ in_first k (sleepers_from d (suc k) xs)
    go k (y ∷ xs) (suc j) x e h =
        let rest = go (suc k) xs j x e h in
        let at : suc k + j ≡ k + suc j = omega arith in
        let there : contains (sleepers_from d (suc k) xs) (k + suc j) ≡ true = subst (λ z. contains (sleepers_from d (suc k) xs) z ≡ true) at rest in
        by_test (is_sleeping d y)
        (λ c. ap (λ (u : Bool). contains (if u then (k ∷ sleepers_from d (suc k) xs) else sleepers_from d (suc k) xs) (k + suc j)) c ∙ in_rest k (sleepers_from d (suc k) xs) (k + suc j) there)
        (λ c. ap (λ (u : Bool). contains (if u then (k ∷ sleepers_from d (suc k) xs) else sleepers_from d (suc k) xs) (k + suc j)) c ∙ there)

-- there are no more than they weigh
pub sleepers_small : (d : Design) (k : ℕ) (xs : List Process) → length (sleepers_from d k xs) ≤ sum_by (sleeper_weight d) xs
sleepers_small d k [] = omega arith
sleepers_small d k (x ∷ xs) =
    let rest = sleepers_small d (suc k) xs in
    let sum = sum_by-cons (sleeper_weight d) x xs in
    by_test (is_sleeping d x)
    (λ e.
    let here : length (sleepers_from d k (x ∷ xs)) ≡ suc (length (sleepers_from d (suc k) xs)) = ap (λ (c : Bool). length (if c then (k ∷ sleepers_from d (suc k) xs) else sleepers_from d (suc k) xs)) e in
    let weight : sleeper_weight d x ≡ distinct (waits_of x) + 1 + distinct (writes_of x) = ap (λ (c : Bool). if c then distinct (waits_of x) + 1 + distinct (writes_of x) else 0) e in
    omega (arith, rest, sum, here, weight))
    (λ e.
    let here : length (sleepers_from d k (x ∷ xs)) ≡ length (sleepers_from d (suc k) xs) = ap (λ (c : Bool). length (if c then (k ∷ sleepers_from d (suc k) xs) else sleepers_from d (suc k) xs)) e in
    omega (arith, rest, sum, here))

-- ---- processes that do not sleep

combinational : (x : Process) → is_combinational x ≡ true → is_clocked x ≡ false
combinational (Continuous place port target_place target e) h = refl
combinational (Always place star events statement) h = go (is_clocked (Always place star events statement)) h
  where
    go : (c : Bool) → (not c) ≡ true → c ≡ false
    go true h = cc
    go false h = refl

-- a block that sleeps is no clocked one
pub sleeps_unclocked : (d : Design) (x : Process) → is_sleeping d x ≡ true → is_clocked x ≡ false
sleeps_unclocked d (Continuous place port target_place target e) h = refl
sleeps_unclocked d (Always place star events statement) h =
    combinational (Always place star events statement) (first (is_combinational (Always place star events statement)) _ _ h)
  where
    first : (u v w : Bool) → (u && v && w) ≡ true → u ≡ true
    first true v w h = refl
    first false v w h = cc

pub clocked_awake : (d : Design) (x : Process) → is_clocked x ≡ true → sleeper_of d (Some x) ≡ None
clocked_awake d x h = by_test (is_sleeping d x)
    (λ e. absurd (both_ways (is_clocked x) (sleeps_unclocked d x e) h))
    (λ e. ap (λ c. sleeper_if c x) e)

-- the calls of a clocked block
pub block_lowered : (d : Design) (l : Layout) (mask : ℕ) (x : Process) (calls : List Call) → is_clocked x ≡ true → IsLoweredAs l mask (sleeper_of d (Some x)) x calls → IsLoweredProcess l x calls
block_lowered d l mask x calls h low = subst (λ (o : Option Sleeper). IsLoweredAs l mask o x calls) (clocked_awake d x h) low

-- the stores and slots of any
pub lowered_stores : (d : Design) (l : Layout) (mask : ℕ) (x : Process) (calls : List Call) → IsLoweredAs l mask (sleeper_of d (Some x)) x calls → length_of calls ≤ stores_of d x
lowered_stores d l mask x calls low = by_test (is_sleeping d x)
    (λ e.
    let stores = (subst (λ (c : Bool). IsLoweredAs l mask (sleeper_if c x) x calls) e low).stores in
    let weight : sleeper_weight d x ≡ distinct (waits_of x) + 1 + distinct (writes_of x) = ap (λ (c : Bool). if c then distinct (waits_of x) + 1 + distinct (writes_of x) else 0) e in
    omega (arith, stores, weight))
    (λ e.
    let stores = (subst (λ (c : Bool). IsLoweredAs l mask (sleeper_if c x) x calls) e low).stores in
    omega (arith, stores))

pub lowered_slots : (d : Design) (l : Layout) (mask : ℕ) (x : Process) (calls : List Call) → IsLoweredAs l mask (sleeper_of d (Some x)) x calls → All (λ slot. slot < l.first_temp + process_weight x) (slots_of calls)
lowered_slots d l mask x calls low = by_test (is_sleeping d x)
    (λ e. (subst (λ (c : Bool). IsLoweredAs l mask (sleeper_if c x) x calls) e low).slots)
    (λ e. (subst (λ (c : Bool). IsLoweredAs l mask (sleeper_if c x) x calls) e low).slots)

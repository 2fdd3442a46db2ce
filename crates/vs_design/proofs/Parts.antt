-- The processes of a design's network, by kind.
use Rattle.std.proofs.Common.{◌≡◌, ℕ, zero, suc, ◌+◌, ◌≤◌, Bool, true, false, List, [], ◌∷◌, ◌++◌, refl, sym, ap, ◌∙◌, subst, map, length, arith, ◌==◌, eq-eqb, not, cond, nat_lt, Some, None}
use Rattle.std.specs.Prelude.{slice_get}
use Rattle.std.specs.List.{list_any, list_all, filter}
use Rattle.vs_net.specs.Network.{Network, State}
use Rattle.vs_net.specs.Network as N
use Rattle.vs_design.specs.Expressions.{Signal, Expression}
use Rattle.vs_design.specs.Values.{bits_of_signal}
use Rattle.vs_design.specs.Statements.{Target, Statement}
use Rattle.vs_design.specs.Bodies.{assignment_writes, body, no_effect}
use Rattle.vs_design.specs.Designs.{Event, Port, Process, Continuous, Always, is_clocked, Design, top_inputs, bit_count}
use Rattle.vs_design.specs.Footprints.{contains, read_bits, target_reads, target_bits, statement_bits, waits_of}
use Rattle.vs_design.specs.Clocks.{clock_bit, first_clock, root_of}
use Rattle.vs_design.specs.Resets.{reset_by}
use Rattle.vs_design.specs.Networks.{events_in, block_process, process_of, writer_of, spare_clocks, spare_writers, keeper_of, at_or_input, network_of}
use Rattle.vs_design.specs.Initials.{sole_bits}
use Rattle.vs_design.proofs.Lists.{by_test, and_both, or_left, or_right, or_neither}

pub all_at : {A : Type 0} (test : A → Bool) (xs : List A) (n : ℕ) (x : A) → list_all test xs ≡ true → slice_get xs n ≡ Some x → test x ≡ true
all_at test [] n x h e = cc
all_at test (y ∷ ys) zero x h e = subst (λ z. test z ≡ true) (some_is y x e) (and_both (test y) (list_all test ys) h).0
  where
    some_is : {A : Type 0} (y x : A) → Some y ≡ Some x → y ≡ x
    some_is y x e = cc
all_at test (y ∷ ys) (suc n) x h e = all_at test ys n x (and_both (test y) (list_all test ys) h).1 e

pub none_at : {A : Type 0} (test : A → Bool) (xs : List A) (n : ℕ) (x : A) → list_any test xs ≡ false → slice_get xs n ≡ Some x → test x ≡ false
none_at test [] n x h e = cc
none_at test (y ∷ ys) zero x h e = subst (λ z. test z ≡ false) (some_is y x e) (or_neither (test y) (list_any test ys) h).0
  where
    some_is : {A : Type 0} (y x : A) → Some y ≡ Some x → y ≡ x
    some_is y x e = cc
none_at test (y ∷ ys) (suc n) x h e = none_at test ys n x (or_neither (test y) (list_any test ys) h).1 e

less_not : (m n : ℕ) → nat_lt m n ≡ false → n ≤ m
less_not m n h = grind arith

at_process : (d : Design) (k : List ℕ) (ps : List Process) (ws : List N.Process) (p : ℕ) (x : Process) → slice_get ps p ≡ Some x → at_or_input (map (process_of d k) ps ++ ws) p ≡ process_of d k x
at_process d k [] ws p x e = cc
at_process d k (y ∷ ps) ws zero x e = ap (process_of d k) (some_is y x e)
  where
    some_is : (y x : Process) → Some y ≡ Some x → y ≡ x
    some_is y x e = cc
at_process d k (y ∷ ps) ws (suc p) x e = at_process d k ps ws p x e

at_writer : (d : Design) (ps : List Process) (c : List ℕ) (ss : List Signal) (ws : List N.Process) (i p : ℕ) (s : Signal) → p ≡ length ps + i → slice_get ss i ≡ Some s → at_or_input (map (process_of d c) ps ++ (map (writer_of c) ss ++ ws)) p ≡ writer_of c s
at_writer d [] c [] ws i p s l e = cc
at_writer d [] c (t ∷ ss) ws zero zero s l e = ap (writer_of c) (some_is t s e)
  where
    some_is : (y x : Signal) → Some y ≡ Some x → y ≡ x
    some_is y x e = cc
at_writer d [] c (t ∷ ss) ws zero (suc p) s l e = absurd (omega arith)
at_writer d [] c (t ∷ ss) ws (suc i) zero s l e = absurd (omega arith)
at_writer d [] c (t ∷ ss) ws (suc i) (suc p) s l e = at_writer d [] c ss ws i p s (omega arith) e
at_writer d (y ∷ ps) c ss ws i zero s l e = absurd (omega arith)
at_writer d (y ∷ ps) c ss ws i (suc p) s l e = at_writer d ps c ss ws i p s (omega arith) e

pub process_there : (d : Design) (c : List ℕ) (p : ℕ) (x : Process) → slice_get d.processes p ≡ Some x → (network_of d c).process p ≡ process_of d c x
process_there d c p x e = at_process d c d.processes (map (writer_of c) (top_inputs d) ++ (spare_writers d c ++ keeper_of c (sole_bits d))) p x e

pub writer_there : (d : Design) (c : List ℕ) (i : ℕ) (s : Signal) → slice_get (top_inputs d) i ≡ Some s → (network_of d c).process (length d.processes + i) ≡ writer_of c s
writer_there d c i s e = at_writer d d.processes c (top_inputs d) (spare_writers d c ++ keeper_of c (sole_bits d)) i (length d.processes + i) s refl e

at_skip : (xs ys : List N.Process) (n p : ℕ) → p ≡ length xs + n → at_or_input (xs ++ ys) p ≡ at_or_input ys n
at_skip [] ys n p l = ap (at_or_input ys) (omega (arith, l))
at_skip (x ∷ xs) ys n zero l = absurd (omega arith)
at_skip (x ∷ xs) ys n (suc p) l = at_skip xs ys n p (omega arith)

-- the clocks that aren't bits of the design are there
at_spares : (bs : List ℕ) (ws : List N.Process) (i b : ℕ) → slice_get bs i ≡ Some b → at_or_input (map N.Clock bs ++ ws) i ≡ N.Clock b
at_spares [] ws i b e = cc
at_spares (x ∷ bs) ws zero b e = let same : x ≡ b = cc in ap N.Clock same
at_spares (x ∷ bs) ws (suc i) b e = at_spares bs ws i b e

pub at_spare : (d : Design) (c : List ℕ) (i b : ℕ) → slice_get (spare_clocks d c) i ≡ Some b → (p : ℕ) × ((network_of d c).process p ≡ N.Clock b)
at_spare d c i b e = (
  length (map (process_of d c) d.processes) + (length (map (writer_of c) (top_inputs d)) + i),
  at_skip (map (process_of d c) d.processes) (map (writer_of c) (top_inputs d) ++ (spare_writers d c ++ keeper_of c (sole_bits d))) (length (map (writer_of c) (top_inputs d)) + i) _ refl
      ∙ at_skip (map (writer_of c) (top_inputs d)) (spare_writers d c ++ keeper_of c (sole_bits d)) i _ refl
      ∙ at_spares (spare_clocks d c) (keeper_of c (sole_bits d)) i b e,
)

-- what is in a filtered list passes the test
filtered_at : (t : ℕ → Bool) (cs : List ℕ) (i b : ℕ) → slice_get (filter t cs) i ≡ Some b → (contains cs b ≡ true) × (t b ≡ true)
filtered_at t [] i b e = cc
filtered_at t (x ∷ cs) i b e =
    by_test (t x)
    (λ h. taken i (subst (λ (g : Bool). slice_get (cond g (x ∷ filter t cs) (filter t cs)) i ≡ Some b) h e) h (λ j f. filtered_at t cs j b f))
    (λ h. let r = filtered_at t cs i b (subst (λ (g : Bool). slice_get (cond g (x ∷ filter t cs) (filter t cs)) i ≡ Some b) h e) in (or_right (b == x) (contains cs b) r.0, r.1))
  where
    taken : (i : ℕ) → slice_get (x ∷ filter t cs) i ≡ Some b → t x ≡ true → ((j : ℕ) → slice_get (filter t cs) j ≡ Some b → (contains cs b ≡ true) × (t b ≡ true)) → (contains (x ∷ cs) b ≡ true) × (t b ≡ true)
    taken zero e h f = let same : x ≡ b = cc in (or_left (b == x) (contains cs b) (eq-eqb b x (sym same)), subst (λ y. t y ≡ true) same h)
    taken (suc i) e h f = let r = f i e in (or_right (b == x) (contains cs b) r.0, r.1)

-- such a clock is beyond the design's bits
pub spare_facts : (d : Design) (c : List ℕ) (i b : ℕ) → slice_get (spare_clocks d c) i ≡ Some b → (contains c b ≡ true) × (bit_count d ≤ b)
spare_facts d c i b e = let r = filtered_at (λ b. not (nat_lt b (bit_count d))) c i b e in (r.0, less_not b (bit_count d) (inverse (nat_lt b (bit_count d)) r.1))
  where
    inverse : (x : Bool) → not x ≡ true → x ≡ false
    inverse false h = refl
    inverse true h = cc

-- the block that keeps what initial processes alone write is there
pub keeper_there : (d : Design) (c : List ℕ) (b : ℕ) (bs : List ℕ) → sole_bits d ≡ b ∷ bs → (p : ℕ) × ((network_of d c).process p ≡ N.Clocked (first_clock c) None (contains (b ∷ bs)) (λ s. no_effect))
keeper_there d c b bs e = (
  length (map (process_of d c) d.processes) + (length (map (writer_of c) (top_inputs d)) + (length (spare_writers d c) + 0)),
  at_skip (map (process_of d c) d.processes) (map (writer_of c) (top_inputs d) ++ (spare_writers d c ++ keeper_of c (sole_bits d))) (length (map (writer_of c) (top_inputs d)) + (length (spare_writers d c) + 0)) _ refl
      ∙ at_skip (map (writer_of c) (top_inputs d)) (spare_writers d c ++ keeper_of c (sole_bits d)) (length (spare_writers d c) + 0) _ refl
      ∙ at_skip (spare_writers d c) (keeper_of c (sole_bits d)) 0 _ refl
      ∙ ap (λ xs. at_or_input (keeper_of c xs) 0) e,
)

-- what holds of each process, by kind
pub record Cases (d : Design) (c : List ℕ) (F : ℕ → N.Process → Type 0) : Type 0 where
  pub assigns : (p place : ℕ) (port : Port) (target_place : ℕ) (target : Target) (e : Expression) → slice_get d.processes p ≡ Some (Continuous place port target_place target e)
      → F p (N.Assign (contains (target_reads target ++ read_bits e)) (contains (target_bits target)) (assignment_writes target e))
  pub combs : (p place : ℕ) (star : Bool) (events : List Event) (st : Statement) → slice_get d.processes p ≡ Some (Always place star events st) → is_clocked (Always place star events st) ≡ false
      → F p (N.Comb (contains (waits_of (Always place star events st))) (contains (statement_bits st)) (body st))
  pub clocked : (p place : ℕ) (star : Bool) (events : List Event) (st : Statement) → slice_get d.processes p ≡ Some (Always place star events st) → is_clocked (Always place star events st) ≡ true
      → F p (N.Clocked (clock_bit (events_in d c events)) (reset_by (root_of d c) (events_in d c events) st) (contains (statement_bits st)) (body st))
  pub inputs : (p i : ℕ) (s : Signal) → p ≡ length d.processes + i → slice_get (top_inputs d) i ≡ Some s → contains c s.first ≡ false → F p (N.Input (bits_of_signal s))
  pub clock : (p i : ℕ) (s : Signal) → p ≡ length d.processes + i → slice_get (top_inputs d) i ≡ Some s → contains c s.first ≡ true → F p (N.Clock s.first)
  -- a clock that isn't a bit of the design
  pub spare : (p i b : ℕ) → p ≡ length d.processes + (length (top_inputs d) + i) → slice_get (spare_clocks d c) i ≡ Some b → contains c b ≡ true → bit_count d ≤ b → F p (N.Clock b)
  -- the block that keeps what initial processes alone write
  pub keeper : (p : ℕ) → p ≡ length d.processes + (length (top_inputs d) + length (spare_writers d c)) → (b : ℕ) (bs : List ℕ) → sole_bits d ≡ b ∷ bs → F p (N.Clocked (first_clock c) None (contains (b ∷ bs)) (λ s. no_effect))
  pub none : (p : ℕ) → F p (N.Input [])

block_case : (d : Design) (c : List ℕ) (F : ℕ → N.Process → Type 0) → Cases d c F → (p place : ℕ) (star : Bool) (events : List Event) (st : Statement) → slice_get d.processes p ≡ Some (Always place star events st)
    → (b : Bool) → is_clocked (Always place star events st) ≡ b → F p (block_process d c b (Always place star events st) events st)
block_case d c F k p place star events st e true h = k.clocked p place star events st e h
block_case d c F k p place star events st e false h = k.combs p place star events st e h

process_case : (d : Design) (c : List ℕ) (F : ℕ → N.Process → Type 0) → Cases d c F → (p : ℕ) (x : Process) → slice_get d.processes p ≡ Some x → F p (process_of d c x)
process_case d c F k p (Continuous place port target_place target e) h = k.assigns p place port target_place target e h
process_case d c F k p (Always place star events st) h = block_case d c F k p place star events st h (is_clocked (Always place star events st)) refl

writer_case : (d : Design) (c : List ℕ) (F : ℕ → N.Process → Type 0) → Cases d c F → (p i : ℕ) (s : Signal) → p ≡ length d.processes + i → slice_get (top_inputs d) i ≡ Some s → F p (writer_of c s)
writer_case d c F k p i s l e =
    by_test (contains c s.first)
    (λ h. rw h (k.clock p i s l e h))
    (λ h. rw h (k.inputs p i s l e h))

pub by_kind : (d : Design) (c : List ℕ) (F : ℕ → N.Process → Type 0) → Cases d c F → (p : ℕ) → F p ((network_of d c).process p)
by_kind d c F k p = walk d.processes p F k.none (λ q x e. process_case d c F k q x e) (λ q i s l e. writer_case d c F k q i s l e) (λ q i b l e. let r = spare_facts d c i b e in k.spare q i b l e r.0 r.1) k.keeper
  where
    keepers : (p : ℕ) (F' : ℕ → N.Process → Type 0) → ((q : ℕ) → F' q (N.Input [])) → ((q : ℕ) → q ≡ 0 → (b : ℕ) (bs : List ℕ) → sole_bits d ≡ b ∷ bs → F' q (N.Clocked (first_clock c) None (contains (b ∷ bs)) (λ s. no_effect)))
        → (bs : List ℕ) → sole_bits d ≡ bs → F' p (at_or_input (keeper_of c bs) p)
    keepers p F' n w [] e = n p
    keepers zero F' n w (b ∷ bs) e = w 0 refl b bs e
    keepers (suc p) F' n w (b ∷ bs) e = n (suc p)

    spares : (cs : List ℕ) (p : ℕ) (F' : ℕ → N.Process → Type 0) → ((q : ℕ) → F' q (N.Input [])) → ((q b : ℕ) → slice_get cs q ≡ Some b → F' q (N.Clock b))
        → ((q : ℕ) → q ≡ length (map N.Clock cs) → (b : ℕ) (bs : List ℕ) → sole_bits d ≡ b ∷ bs → F' q (N.Clocked (first_clock c) None (contains (b ∷ bs)) (λ s. no_effect)))
        → F' p (at_or_input (map N.Clock cs ++ keeper_of c (sole_bits d)) p)
    spares [] p F' n v w = keepers p F' n w (sole_bits d) refl
    spares (x ∷ cs) zero F' n v w = v 0 x refl
    spares (x ∷ cs) (suc p) F' n v w = spares cs p (λ q x. F' (suc q) x) (λ q. n (suc q)) (λ q b e. v (suc q) b e) (λ q l b bs e. w (suc q) (ap suc l) b bs e)

    inputs : (ss : List Signal) (p : ℕ) (F' : ℕ → N.Process → Type 0) → ((q : ℕ) → F' q (N.Input [])) → ((q : ℕ) (s : Signal) → slice_get ss q ≡ Some s → F' q (writer_of c s))
        → ((q i b : ℕ) → q ≡ length ss + i → slice_get (spare_clocks d c) i ≡ Some b → F' q (N.Clock b))
        → ((q : ℕ) → q ≡ length ss + length (spare_writers d c) → (b : ℕ) (bs : List ℕ) → sole_bits d ≡ b ∷ bs → F' q (N.Clocked (first_clock c) None (contains (b ∷ bs)) (λ s. no_effect)))
        → F' p (at_or_input (map (writer_of c) ss ++ (spare_writers d c ++ keeper_of c (sole_bits d))) p)
    inputs [] p F' n w v k = spares (spare_clocks d c) p F' n (λ q b e. v q q b (omega arith) e) (λ q l b bs e. k q (omega (arith, l)) b bs e)
    inputs (s ∷ ss) zero F' n w v k = w 0 s refl
    inputs (s ∷ ss) (suc p) F' n w v k = inputs ss p (λ q x. F' (suc q) x) (λ q. n (suc q)) (λ q t e. w (suc q) t e) (λ q i b l e. v (suc q) i b (omega (arith, l)) e) (λ q l b bs e. k (suc q) (omega (arith, l)) b bs e)

    walk : (ps : List Process) (p : ℕ) (F' : ℕ → N.Process → Type 0) → ((q : ℕ) → F' q (N.Input [])) → ((q : ℕ) (x : Process) → slice_get ps q ≡ Some x → F' q (process_of d c x))
        → ((q i : ℕ) (s : Signal) → q ≡ length ps + i → slice_get (top_inputs d) i ≡ Some s → F' q (writer_of c s))
        → ((q i b : ℕ) → q ≡ length ps + (length (top_inputs d) + i) → slice_get (spare_clocks d c) i ≡ Some b → F' q (N.Clock b))
        → ((q : ℕ) → q ≡ length ps + (length (top_inputs d) + length (spare_writers d c)) → (b : ℕ) (bs : List ℕ) → sole_bits d ≡ b ∷ bs → F' q (N.Clocked (first_clock c) None (contains (b ∷ bs)) (λ s. no_effect)))
        → F' p (at_or_input (map (process_of d c) ps ++ (map (writer_of c) (top_inputs d) ++ (spare_writers d c ++ keeper_of c (sole_bits d)))) p)
    walk [] p F' n f w v k = inputs (top_inputs d) p F' n (λ q s e. w q q s (omega arith) e) (λ q i b l e. v q i b (omega (arith, l)) e) (λ q l b bs e. k q (omega (arith, l)) b bs e)
    walk (x ∷ ps) zero F' n f w v k = f 0 x refl
    walk (x ∷ ps) (suc p) F' n f w v k = walk ps p (λ q y. F' (suc q) y) (λ q. n (suc q)) (λ q y e. f (suc q) y e) (λ q i s l e. w (suc q) i s (omega arith) e) (λ q i b l e. v (suc q) i b (omega (arith, l)) e) (λ q l b bs e. k (suc q) (omega (arith, l)) b bs e)

pub beyond_count : (xs : List N.Process) (p : ℕ) → length xs ≤ p → at_or_input xs p ≡ N.Input []
beyond_count [] p h = refl
beyond_count (x ∷ xs) zero h = absurd (omega arith)
beyond_count (x ∷ xs) (suc p) h = beyond_count xs p (omega arith)

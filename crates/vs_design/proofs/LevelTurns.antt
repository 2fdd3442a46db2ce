-- What the turns over the processes place, and what they leave.
use Rattle.std.proofs.Common.{◌≡◌, ℕ, zero, suc, ◌+◌, ◌≤◌, ◌<◌, Bool, true, false, List, [], ◌∷◌, ◌++◌, ◌||◌, ◌&&◌, ◌==◌, not, if◌then◌else◌, ◌⊎◌, inl, inr, refl, sym, ap, ◌∙◌, subst, length, arith, eqb-true, eq-eqb, Some, length-append}
use Rattle.std.specs.Prelude.{slice_get}
use Rattle.std.proofs.lemmas.Option.{slice_get_within}
use Rattle.vs_design.specs.Designs.{Process, is_clocked, Design}
use Rattle.vs_design.specs.Footprints.{contains}
use Rattle.vs_design.specs.Levels.{feeds, is_ready, turn, turns, level_order, has_all, at_number, is_order_after, is_level_order}
use Rattle.vs_design.specs.Cycles.{AreApart}
use Rattle.vs_design.proofs.Lists.{by_test, and_both, or_left, or_neither, contains-append}
use Rattle.vs_design.proofs.Writes.{either_way}
use Rattle.vs_design.proofs.WidthExact.{and_true}
use Rattle.vs_design.proofs.Order.{at_is}
use Rattle.vs_design.proofs.Apart.{all_below}

-- ---- lists with the same members

abbrev pub SameMembers : List ℕ → List ℕ → Type 0
SameMembers xs ys = (b : ℕ) → contains xs b ≡ contains ys b

ready_same : (xs ys : List ℕ) (k : ℕ) (ps : List Process) (x : Process) → SameMembers xs ys → is_ready xs k ps x ≡ is_ready ys k ps x
ready_same xs ys k [] x h = refl
ready_same xs ys k (y ∷ ps) x h =
    ap {B = Bool} (λ c. (is_clocked y || not (feeds y x) || c) && is_ready xs (suc k) ps x) (h k)
    ∙ ap {B = Bool} (λ c. (is_clocked y || not (feeds y x) || contains ys k) && c) (ready_same xs ys (suc k) ps x h)

all_same : (xs ys : List ℕ) (k : ℕ) (ps : List Process) → SameMembers xs ys → has_all xs k ps ≡ has_all ys k ps
all_same xs ys k [] h = refl
all_same xs ys k (y ∷ ps) h =
    ap {B = Bool} (λ c. (is_clocked y || c) && has_all xs (suc k) ps) (h k)
    ∙ ap {B = Bool} (λ c. (is_clocked y || contains ys k) && c) (all_same xs ys (suc k) ps h)

-- ---- lists that are an order as far as they go

-- p may be placed next
abbrev pub goes : Design → List ℕ → ℕ → Bool
goes d placed p = not (contains placed p) && at_number p d.processes (λ process. not (is_clocked process) && is_ready placed 0 d.processes process)

abbrev pub is_partial : List ℕ → Design → List ℕ → Bool
is_partial placed d [] = true
is_partial placed d (p ∷ order) = goes d placed p && is_partial (p ∷ placed) d order

number_same : (p : ℕ) (ps : List Process) (f g : Process → Bool) → ((x : Process) → f x ≡ g x) → at_number p ps f ≡ at_number p ps g
number_same p [] f g h = refl
number_same zero (x ∷ ps) f g h = h x
number_same (suc p) (x ∷ ps) f g h = number_same p ps f g h

goes_same : (d : Design) (xs ys : List ℕ) (p : ℕ) → SameMembers xs ys → goes d xs p ≡ goes d ys p
goes_same d xs ys p h =
    ap {B = Bool} (λ c. not c && at_number p d.processes (λ process. not (is_clocked process) && is_ready xs 0 d.processes process)) (h p)
    ∙ ap {B = Bool} (λ c. not (contains ys p) && c) (number_same p d.processes (λ process. not (is_clocked process) && is_ready xs 0 d.processes process) (λ process. not (is_clocked process) && is_ready ys 0 d.processes process) (λ x. ap {B = Bool} (λ c. not (is_clocked x) && c) (ready_same xs ys 0 d.processes x h)))

-- moved from one list to the other
moved : (order placed : List ℕ) (q : ℕ) → SameMembers ((q ∷ order) ++ placed) (order ++ q ∷ placed)
moved order placed q b = go (b == q) (contains order b) (contains placed b) (contains-append order placed b) (contains-append order (q ∷ placed) b)
  where
    go : (e x y : Bool) → contains (order ++ placed) b ≡ (x || y) → contains (order ++ q ∷ placed) b ≡ (x || (e || y)) → (e || contains (order ++ placed) b) ≡ contains (order ++ q ∷ placed) b
    go true true y h k = sym k
    go true false y h k = sym k
    go false x y h k = h ∙ sym k

partial_snoc : (d : Design) (order placed : List ℕ) (p : ℕ) → is_partial placed d order ≡ true → goes d (order ++ placed) p ≡ true → is_partial placed d (order ++ p ∷ []) ≡ true
partial_snoc d [] placed p h g = and_true _ _ g refl
partial_snoc d (q ∷ order) placed p h g =
    let k = and_both (goes d placed q) (is_partial (q ∷ placed) d order) h in
    and_true _ _ k.0 (partial_snoc d order (q ∷ placed) p k.1 (sym (goes_same d ((q ∷ order) ++ placed) (order ++ q ∷ placed) p (moved order placed q)) ∙ g))

-- where all are placed, it is an order
pub partial_whole : (d : Design) (order placed : List ℕ) → is_partial placed d order ≡ true → has_all (order ++ placed) 0 d.processes ≡ true → is_order_after placed d order ≡ true
partial_whole d [] placed h k = k
partial_whole d (q ∷ order) placed h k =
    let l = and_both (goes d placed q) (is_partial (q ∷ placed) d order) h in
    and_true _ _ l.0 (partial_whole d order (q ∷ placed) l.1 (sym (all_same ((q ∷ order) ++ placed) (order ++ q ∷ placed) 0 d.processes (moved order placed q)) ∙ k))

not_is : (a : Bool) → not a ≡ true → a ≡ false
not_is true h = cc
not_is false h = refl

is_not : (a : Bool) → a ≡ false → not a ≡ true
is_not true h = cc
is_not false h = refl

partial_fresh : (d : Design) (order placed : List ℕ) (b : ℕ) → is_partial placed d order ≡ true → contains order b ≡ true → contains placed b ≡ false
partial_fresh d [] placed b h c = cc
partial_fresh d (q ∷ order) placed b h c =
    let l = and_both (goes d placed q) (is_partial (q ∷ placed) d order) h in
    by_test (b == q)
    (λ e. subst (λ m. contains placed m ≡ false) (sym (eqb-true b q e)) (not_is (contains placed q) (and_both (not (contains placed q)) _ l.0).0))
    (λ e. (or_neither (b == q) (contains placed b) (partial_fresh d order (q ∷ placed) b l.1 (subst (λ x. (x || contains order b) ≡ true) e c))).1)

pub partial_apart : (d : Design) (order placed : List ℕ) → is_partial placed d order ≡ true → AreApart order
partial_apart d [] placed h = tt
partial_apart d (q ∷ order) placed h =
    let l = and_both (goes d placed q) (is_partial (q ∷ placed) d order) h in
    (by_test (contains order q) (λ e. absurd (either_way (contains (q ∷ placed) q) (or_left (q == q) (contains placed q) (eq-eqb q q refl)) (partial_fresh d order (q ∷ placed) q l.1 e))) (λ e. e), partial_apart d order (q ∷ placed) l.1)

pub partial_below : (d : Design) (order placed : List ℕ) (b : ℕ) → is_partial placed d order ≡ true → contains order b ≡ true → b < length d.processes
partial_below d [] placed b h c = cc
partial_below d (q ∷ order) placed b h c =
    let l = and_both (goes d placed q) (is_partial (q ∷ placed) d order) h in
    by_test (b == q)
    (λ e.
    let a = at_is q d.processes (λ process. not (is_clocked process) && is_ready placed 0 d.processes process) (and_both (not (contains placed q)) (at_number q d.processes (λ process. not (is_clocked process) && is_ready placed 0 d.processes process)) l.0).1 in
    subst (λ m. m < length d.processes) (sym (eqb-true b q e)) (slice_get_within d.processes q a.0 a.1))
    (λ e. partial_below d order (q ∷ placed) b l.1 (subst (λ x. (x || contains order b) ≡ true) e c))

-- ---- one turn

-- p is placed in its turn
abbrev pub placed_now : List Process → List ℕ → ℕ → Process → Bool
placed_now all placed p x = not (is_clocked x) && not (contains placed p) && is_ready placed 0 all x

number_at : (p : ℕ) (ps : List Process) (x : Process) (f : Process → Bool) → slice_get ps p ≡ Some x → at_number p ps f ≡ f x
number_at p [] x f h = cc
number_at zero (y ∷ ps) x f h = ap f (some_is y h)
  where
    some_is : (y : Process) → Some y ≡ Some x → y ≡ x
    some_is y e = cc
number_at (suc p) (y ∷ ps) x f h = number_at p ps x f h

placed_goes : (d : Design) (placed : List ℕ) (p : ℕ) (x : Process) → slice_get d.processes p ≡ Some x → placed_now d.processes placed p x ≡ true → goes d placed p ≡ true
placed_goes d placed p x e h =
    let a = and_both (not (is_clocked x) && not (contains placed p)) (is_ready placed 0 d.processes x) h in
    let b = and_both (not (is_clocked x)) (not (contains placed p)) a.0 in
    and_true _ _ b.1 (number_at p d.processes x (λ process. not (is_clocked process) && is_ready placed 0 d.processes process) e ∙ and_true _ _ b.0 a.1)

nil_end : (xs : List ℕ) → SameMembers xs (xs ++ [])
nil_end xs b = sym (contains-append xs [] b ∙ or_false_right (contains xs b))
  where
    or_false_right : (a : Bool) → (a || false) ≡ a
    or_false_right true = refl
    or_false_right false = refl

-- the list is the end of the design's from number p on
abbrev pub IsTail : Design → ℕ → List Process → Type 0
IsTail d p ps = (n : ℕ) (x : Process) → slice_get ps n ≡ Some x → slice_get d.processes (p + n) ≡ Some x

whole_tail : (d : Design) → IsTail d 0 d.processes
whole_tail d n x e = subst (λ m. slice_get d.processes m ≡ Some x) (omega arith) e

tail_rest : (d : Design) (p : ℕ) (x : Process) (ps : List Process) → IsTail d p (x ∷ ps) → IsTail d (suc p) ps
tail_rest d p x ps t n y e = subst (λ m. slice_get d.processes m ≡ Some y) (omega arith) (t (suc n) y e)

turn_partial : (d : Design) (placed : List ℕ) (p : ℕ) (ps : List Process) → IsTail d p ps → is_partial [] d placed ≡ true → is_partial [] d (turn d.processes placed p ps) ≡ true
turn_partial d placed p [] t h = h
turn_partial d placed p (x ∷ ps) t h =
    turn_partial d (if placed_now d.processes placed p x then (placed ++ p ∷ []) else placed) (suc p) ps (tail_rest d p x ps t)
    (by_test (placed_now d.processes placed p x)
    (λ e. subst (λ (c : Bool). is_partial [] d (if c then (placed ++ p ∷ []) else placed) ≡ true) (sym e)
    (partial_snoc d placed [] p h (sym (goes_same d placed (placed ++ []) p (nil_end placed)) ∙ placed_goes d placed p x (subst (λ m. slice_get d.processes m ≡ Some x) (omega arith) (t 0 x refl)) e)))
    (λ e. subst (λ (c : Bool). is_partial [] d (if c then (placed ++ p ∷ []) else placed) ≡ true) (sym e) h))

turn_grows : (all : List Process) (placed : List ℕ) (p : ℕ) (ps : List Process) → length placed ≤ length (turn all placed p ps)
turn_grows all placed p [] = omega arith
turn_grows all placed p (x ∷ ps) =
    let g = turn_grows all (if placed_now all placed p x then (placed ++ p ∷ []) else placed) (suc p) ps in
    let l = more (placed_now all placed p x) in omega (arith, g, l)
  where
    more : (c : Bool) → length placed ≤ length (if c then (placed ++ p ∷ []) else placed)
    more true = let l = length-append placed (p ∷ []) in omega (arith, l)
    more false = omega arith

-- a turn places something, or leaves all as it is
turn_either : (all : List Process) (placed : List ℕ) (p : ℕ) (ps : List Process) → (turn all placed p ps ≡ placed) ⊎ (length placed < length (turn all placed p ps))
turn_either all placed p [] = inl refl
turn_either all placed p (x ∷ ps) =
    by_test (placed_now all placed p x)
    (λ e. inr (subst (λ (c : Bool). length placed < length (turn all (if c then (placed ++ p ∷ []) else placed) (suc p) ps)) (sym e) (let g = turn_grows all (placed ++ p ∷ []) (suc p) ps in let l = length-append placed (p ∷ []) in omega (arith, g, l))))
    (λ e. subst (λ (c : Bool). (turn all (if c then (placed ++ p ∷ []) else placed) (suc p) ps ≡ placed) ⊎ (length placed < length (turn all (if c then (placed ++ p ∷ []) else placed) (suc p) ps))) (sym e) (turn_either all placed (suc p) ps))

-- where it leaves all as it is, nothing could be placed
turn_still : (all : List Process) (placed : List ℕ) (p : ℕ) (ps : List Process) (n : ℕ) (x : Process) → turn all placed p ps ≡ placed → slice_get ps n ≡ Some x → placed_now all placed (p + n) x ≡ false
turn_still all placed p [] n x h e = cc
turn_still all placed p (y ∷ ps) n x h e =
    by_test (placed_now all placed p y)
    (λ c.
    let g = turn_grows all (placed ++ p ∷ []) (suc p) ps in
    let l = length-append placed (p ∷ []) in
    let k : length (turn all (placed ++ p ∷ []) (suc p) ps) ≡ length placed = ap {A = List ℕ} {B = ℕ} length (subst (λ (c : Bool). turn all (if c then (placed ++ p ∷ []) else placed) (suc p) ps ≡ placed) c h) in absurd (omega (arith, g, l, k)))
    (λ c. go n e c (subst (λ (c : Bool). turn all (if c then (placed ++ p ∷ []) else placed) (suc p) ps ≡ placed) c h) (λ m f k. turn_still all placed (suc p) ps m x k f))
  where
    some_is : Some y ≡ Some x → y ≡ x
    some_is e = cc

    go : (n : ℕ) → slice_get (y ∷ ps) n ≡ Some x → placed_now all placed p y ≡ false → turn all placed (suc p) ps ≡ placed → ((m : ℕ) → slice_get ps m ≡ Some x → turn all placed (suc p) ps ≡ placed → placed_now all placed (suc p + m) x ≡ false) → placed_now all placed (p + n) x ≡ false
    go zero e c k f = subst (λ m. placed_now all placed m x ≡ false) (omega arith) (subst (λ z. placed_now all placed p z ≡ false) (some_is e) c)
    go (suc n) e c k f = subst (λ m. placed_now all placed m x ≡ false) (omega arith) (f n e k)

-- ---- all turns

turns_partial : (d : Design) (n : ℕ) (placed : List ℕ) → is_partial [] d placed ≡ true → is_partial [] d (turns n d.processes placed) ≡ true
turns_partial d zero placed h = h
turns_partial d (suc n) placed h = turns_partial d n (turn d.processes placed 0 d.processes) (turn_partial d placed 0 d.processes (whole_tail d) h)

turns_still : (n : ℕ) (all : List Process) (placed : List ℕ) → turn all placed 0 all ≡ placed → turns n all placed ≡ placed
turns_still zero all placed h = refl
turns_still (suc n) all placed h = ap {B = List ℕ} (turns n all) h ∙ turns_still n all placed h

turns_either : (n : ℕ) (all : List Process) (placed : List ℕ) → (turn all (turns n all placed) 0 all ≡ turns n all placed) ⊎ (length placed + n ≤ length (turns n all placed))
turns_either zero all placed = inr (omega arith)
turns_either (suc n) all placed = go (turn_either all placed 0 all) (turns_either n all (turn all placed 0 all))
  where
    go : (turn all placed 0 all ≡ placed) ⊎ (length placed < length (turn all placed 0 all))
        → (turn all (turns n all (turn all placed 0 all)) 0 all ≡ turns n all (turn all placed 0 all)) ⊎ (length (turn all placed 0 all) + n ≤ length (turns n all (turn all placed 0 all)))
        → (turn all (turns n all (turn all placed 0 all)) 0 all ≡ turns n all (turn all placed 0 all)) ⊎ (length placed + suc n ≤ length (turns n all (turn all placed 0 all)))
    go a (inl k) = inl k
    go (inr l) (inr k) = inr (omega arith)
    go (inl e) (inr k) =
        let s : turns n all (turn all placed 0 all) ≡ placed = ap {B = List ℕ} (turns n all) e ∙ turns_still n all placed e in
        inl (ap {B = List ℕ} (λ zs. turn all zs 0 all) s ∙ e ∙ sym s)

-- ---- the computed order

pub level_partial : (d : Design) → is_partial [] d (level_order d) ≡ true
level_partial d = turns_partial d (length d.processes) [] refl

pub level_whole : (d : Design) → has_all (level_order d) 0 d.processes ≡ true → is_level_order d (level_order d) ≡ true
level_whole d h = partial_whole d (level_order d) [] (level_partial d) (sym (all_same (level_order d) (level_order d ++ []) 0 d.processes (nil_end (level_order d))) ∙ h)

-- the process isn't placed
pub record Stuck (d : Design) (p : ℕ) : Type 0 where
  pub process : Process
  pub is : slice_get d.processes p ≡ Some process
  pub settles : is_clocked process ≡ false
  pub unplaced : contains (level_order d) p ≡ false

pub stuck_one : (d : Design) → has_all (level_order d) 0 d.processes ≡ false → (p : ℕ) × Stuck d p
stuck_one d h = go 0 d.processes (whole_tail d) h
  where
    go : (k : ℕ) (ps : List Process) → IsTail d k ps → has_all (level_order d) k ps ≡ false → (p : ℕ) × Stuck d p
    go k [] t h = cc
    go k (x ∷ ps) t h =
        by_test (is_clocked x || contains (level_order d) k)
        (λ e. go (suc k) ps (tail_rest d k x ps t) (subst (λ c. (c && has_all (level_order d) (suc k) ps) ≡ false) e h))
        (λ e. let q = or_neither (is_clocked x) (contains (level_order d) k) e in (k, record { process = x; is = subst (λ m. slice_get d.processes m ≡ Some x) (omega arith) (t 0 x refl); settles = q.0; unplaced = q.1 }))

-- where one is stuck, a further turn would place nothing
level_still : (d : Design) (p : ℕ) → Stuck d p → turn d.processes (level_order d) 0 d.processes ≡ level_order d
level_still d p s = go (turns_either (length d.processes) d.processes [])
  where
    go : (turn d.processes (level_order d) 0 d.processes ≡ level_order d) ⊎ (0 + length d.processes ≤ length (level_order d)) → turn d.processes (level_order d) 0 d.processes ≡ level_order d
    go (inl h) = h
    go (inr l) = absurd (either_way (contains (level_order d) p) (all_below (length d.processes) (level_order d) p (partial_apart d (level_order d) [] (level_partial d)) (λ b c. partial_below d (level_order d) [] b (level_partial d) c) (omega (arith, l)) (slice_get_within d.processes p s.process s.is)) s.unplaced)

-- what isn't ready has a feeder that isn't placed
not_ready : (d : Design) (x : Process) (k : ℕ) (ps : List Process) → IsTail d k ps → is_ready (level_order d) k ps x ≡ false → (q : ℕ) × (s : Stuck d q) × (feeds s.process x ≡ true)
not_ready d x k [] t h = cc
not_ready d x k (y ∷ ps) t h =
    by_test (is_clocked y || not (feeds y x) || contains (level_order d) k)
    (λ e. not_ready d x (suc k) ps (tail_rest d k y ps t) (subst (λ c. (c && is_ready (level_order d) (suc k) ps x) ≡ false) e h))
    (λ e.
    let a = or_neither (is_clocked y || not (feeds y x)) (contains (level_order d) k) e in
    let b = or_neither (is_clocked y) (not (feeds y x)) a.0 in
    (k, record { process = y; is = subst (λ m. slice_get d.processes m ≡ Some y) (omega arith) (t 0 y refl); settles = b.0; unplaced = a.1 }, double (feeds y x) b.1))
  where
    double : (a : Bool) → not a ≡ false → a ≡ true
    double true h = refl
    double false h = cc

pub stuck_feeder : (d : Design) (p : ℕ) (s : Stuck d p) → (q : ℕ) × (r : Stuck d q) × (feeds r.process s.process ≡ true)
stuck_feeder d p s = not_ready d s.process 0 d.processes (whole_tail d) (unready (is_clocked s.process) (contains (level_order d) p) (is_ready (level_order d) 0 d.processes s.process) s.settles s.unplaced (subst (λ m. placed_now d.processes (level_order d) m s.process ≡ false) (omega arith) (turn_still d.processes (level_order d) 0 d.processes p s.process (level_still d p s) s.is)))
  where
    unready : (a b c : Bool) → a ≡ false → b ≡ false → (not a && not b && c) ≡ false → c ≡ false
    unready true b c h k l = cc
    unready false true c h k l = cc
    unready false false c h k l = l

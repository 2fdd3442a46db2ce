-- Branches and the arms of a case leave each bit in its joined sets.
use Rattle.std.proofs.Common.{◌≡◌, ℕ, ◌≤◌, max, Bool, true, false, cond, List, [], ◌∷◌, ◌||◌, ◌&&◌, not, if◌then◌else◌, refl, subst, arith}
use Rattle.std.specs.List.{list_any}
use Rattle.vs_four.specs.declared.Bit4.{Bit4}
use Rattle.vs_four.specs.declared.Bit4.TheVariants.{Zero, One, X, Z}
use Rattle.vs_net.specs.Network.{State, Effect, write_all}
use Rattle.vs_four.specs.Logic.{BitList}
use Rattle.vs_four.specs.Tables.{is_one}
use Rattle.vs_design.specs.Expressions.{Items, NoItem, Item, width}
use Rattle.vs_design.specs.Values.{any_matches}
use Rattle.vs_design.specs.Statements.{CaseKind, Exact, CaseZ, CaseX, case_match, Arms, Arm, Default, arms_width, widest}
use Rattle.vs_design.specs.Sets.{Set4, has, is_only_one, set_match}
use Rattle.vs_design.specs.Lifted.{Family}
use Rattle.vs_design.specs.LiftedBodies.{either, join_branches, match_bit, matches_of, join_arms}
use Rattle.vs_design.specs.TreeLaws.{AllIn}
use Rattle.vs_design.proofs.Lists.{by_test, or_left, or_right, or_neither, or_false}
use Rattle.vs_design.proofs.SetBits.{union_left, union_right}
use Rattle.vs_design.proofs.SetValue.{match_in}
use Rattle.vs_design.proofs.SetBody.{In}

-- ---- branches

pub branches_in : (c : Set4) (v : Bit4) (f g : Family) (x y : Effect) (s : State) (b : ℕ) → has c v ≡ true → In f (write_all s x.writes) b → In g (write_all s y.writes) b → In (join_branches c f g) (write_all s (cond (is_one v) x y).writes) b
branches_in c One f g x y s b h p q =
    rw h (by_test (c.zero? || c.x? || c.z?)
    (λ e. rw e (union_left (f b) (g b) (write_all s x.writes b) p))
    (λ e. rw e p))
branches_in c Zero f g x y s b h p q = other c.one? (c.zero? || c.x? || c.z?) (or_left _ c.z? (or_left c.zero? c.x? h)) f g (write_all s y.writes) b q
  where
    other : (one rest : Bool) → rest ≡ true → (f g : Family) (r : State) (b : ℕ) → In g r b → In (if one then (if rest then either f g else f) else g) r b
    other true true e f g r b q = union_right (f b) (g b) (r b) q
    other true false e f g r b q = cc
    other false rest e f g r b q = q
branches_in c X f g x y s b h p q = other c.one? (c.zero? || c.x? || c.z?) (or_left _ c.z? (or_right c.zero? c.x? h)) f g (write_all s y.writes) b q
  where
    other : (one rest : Bool) → rest ≡ true → (f g : Family) (r : State) (b : ℕ) → In g r b → In (if one then (if rest then either f g else f) else g) r b
    other true true e f g r b q = union_right (f b) (g b) (r b) q
    other true false e f g r b q = cc
    other false rest e f g r b q = q
branches_in c Z f g x y s b h p q = other c.one? (c.zero? || c.x? || c.z?) (or_right (c.zero? || c.x?) c.z? h) f g (write_all s y.writes) b q
  where
    other : (one rest : Bool) → rest ≡ true → (f g : Family) (r : State) (b : ℕ) → In g r b → In (if one then (if rest then either f g else f) else g) r b
    other true true e f g r b q = union_right (f b) (g b) (r b) q
    other true false e f g r b q = cc
    other false rest e f g r b q = q

-- ---- cases

case_in : (kind : CaseKind) {ss ts : List Set4} {us vs : BitList} → AllIn ss us → AllIn ts vs → has (set_match (match_bit kind) ss ts) (case_match kind us vs) ≡ true
case_in Exact h k = match_in (match_bit Exact) h k
case_in CaseZ h k = match_in (match_bit CaseZ) h k
case_in CaseX h k = match_in (match_bit CaseX) h k

-- each of the values is in its sets
abbrev pub EachIn : List (List Set4) → List BitList → Type 0
EachIn [] [] = Unit {0}
EachIn [] (v ∷ vs) = ⊥
EachIn (ss ∷ sets) [] = ⊥
EachIn (ss ∷ sets) (v ∷ vs) = AllIn ss v × EachIn sets vs

pub items_taken : (kind : CaseKind) {ss : List Set4} {v : BitList} (sets : List (List Set4)) (vs : List BitList) → AllIn ss v → EachIn sets vs → any_matches kind v vs ≡ true → list_any (λ (m : Set4). m.one?) (matches_of kind ss sets) ≡ true
items_taken kind [] [] h k t = t
items_taken kind [] (x ∷ vs) h k t = absurd k
items_taken kind (ts ∷ sets) [] h k t = absurd k
items_taken kind {ss} {v} (ts ∷ sets) (x ∷ vs) h k t =
    let m = case_in kind h k.0 in
    by_test {P = ((set_match (match_bit kind) ss ts).one? || list_any (λ (m : Set4). m.one?) (matches_of kind ss sets)) ≡ true} (is_one (case_match kind v x))
    (λ q. or_left (set_match (match_bit kind) ss ts).one? (list_any (λ (m : Set4). m.one?) (matches_of kind ss sets)) (go (set_match (match_bit kind) ss ts) (case_match kind v x) m q))
    (λ q. or_right (set_match (match_bit kind) ss ts).one? (list_any (λ (m : Set4). m.one?) (matches_of kind ss sets)) (items_taken kind sets vs h k.1 (subst (λ c. (c || any_matches kind v vs) ≡ true) q t)))
  where
    go : (m : Set4) (v : Bit4) → has m v ≡ true → is_one v ≡ true → m.one? ≡ true
    go m One h q = h
    go m Zero h q = cc
    go m X h q = cc
    go m Z h q = cc

pub items_passed : (kind : CaseKind) {ss : List Set4} {v : BitList} (sets : List (List Set4)) (vs : List BitList) → AllIn ss v → EachIn sets vs → any_matches kind v vs ≡ false → list_any is_only_one (matches_of kind ss sets) ≡ false
items_passed kind [] [] h k t = t
items_passed kind [] (x ∷ vs) h k t = absurd k
items_passed kind (ts ∷ sets) [] h k t = absurd k
items_passed kind {ss} {v} (ts ∷ sets) (x ∷ vs) h k t =
    let m = case_in kind h k.0 in
    let q = or_neither (is_one (case_match kind v x)) (any_matches kind v vs) t in
    or_false (is_only_one (set_match (match_bit kind) ss ts)) (list_any is_only_one (matches_of kind ss sets)) (go (set_match (match_bit kind) ss ts) (case_match kind v x) m q.0) (items_passed kind sets vs h k.1 q.1)
  where
    go : (m : Set4) (v : Bit4) → has m v ≡ true → is_one v ≡ false → is_only_one m ≡ false
    go m One h q = cc
    go m Zero h q = rw h refl
    go m X h q = rw h (by_test (not m.zero? && m.one?) (λ e. rw e refl) (λ e. rw e refl))
    go m Z h q = rw h (by_test (not m.zero? && m.one?) (λ e. by_test (not m.x?) (λ d. rw (e, d) refl) (λ d. rw (e, d) refl)) (λ e. rw e refl))

-- each item fits in the case's length
abbrev pub AllFit : ℕ → Items → Type 0
AllFit w NoItem = Unit {0}
AllFit w (Item e es) = (width e ≤ w) × AllFit w es

pub arm_in : (ms : List Set4) (taken : Bool) (f g : Family) (x y : Effect) (s : State) (b : ℕ) → (taken ≡ true → list_any (λ (m : Set4). m.one?) ms ≡ true) → (taken ≡ false → list_any is_only_one ms ≡ false)
    → In f (write_all s x.writes) b → In g (write_all s y.writes) b → In (join_arms ms f g) (write_all s (cond taken x y).writes) b
arm_in ms true f g x y s b h k p q =
    by_test (list_any is_only_one ms)
    (λ e. rw e p)
    (λ e. rw e (rw (h refl) (union_left (f b) (g b) (write_all s x.writes b) p)))
arm_in ms false f g x y s b h k p q =
    rw (k refl)
    (by_test (list_any (λ (m : Set4). m.one?) ms)
    (λ e. rw e (union_right (f b) (g b) (write_all s y.writes b) q))
    (λ e. rw e q))

-- every item of a case fits in its length
abbrev pub ArmsFit : ℕ → Arms → Type 0
ArmsFit w (Arm items statement rest) = AllFit w items × ArmsFit w rest
ArmsFit w (Default statement) = Unit {0}

widest_more : (w : ℕ) (es : Items) → w ≤ widest w es
widest_more w NoItem = omega arith
widest_more w (Item e es) = let h = widest_more (max w (width e)) es in omega (arith, h)

all_fit : (m w : ℕ) (es : Items) → widest w es ≤ m → AllFit m es
all_fit m w NoItem h = tt
all_fit m w (Item e es) h = let k = widest_more (max w (width e)) es in (omega (arith, k), all_fit m (max w (width e)) es h)

pub arms_more : (w : ℕ) (arms : Arms) → w ≤ arms_width arms w
arms_more w (Arm items statement rest) = let h = widest_more w items in let k = arms_more (widest w items) rest in omega (arith, h, k)
arms_more w (Default statement) = omega arith

pub arms_fit : (m w : ℕ) (arms : Arms) → arms_width arms w ≤ m → ArmsFit m arms
arms_fit m w (Arm items statement rest) h = let k = arms_more (widest w items) rest in (all_fit m w items (omega (arith, k)), arms_fit m (widest w items) rest h)
arms_fit m w (Default statement) h = tt

pub empty_in : (sets : Family) (s : State) (b : ℕ) → In sets s b → In sets (write_all s []) b
unfolding write_all
empty_in sets s b h = h

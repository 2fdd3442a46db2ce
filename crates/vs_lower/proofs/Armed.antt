-- The arms of a case.
use Rattle.std.proofs.Common.{◌≡◌, ℕ, zero, suc, ◌+◌, ◌<◌, ◌≤◌, Bool, true, false, ◌&&◌, ◌-◌, List, [], ◌∷◌, ◌++◌, map, drop, get_or, length, slice_index, Some, Option, refl, sym, ap, ◌∙◌, subst, arith, ◌⊎◌, inl, inr}
use Rattle.std.specs.List.{All}
use Rattle.std.specs.Prelude.{slice_get}
use Rattle.std.proofs.lemmas.List.{drop_more, length-map}
use Rattle.std.proofs.lemmas.List.Elements.{All-nil, All-cons, All-weaker}
use Rattle.vs_four.specs.Logic.{BitList}
use Rattle.vs_net.specs.Network as N
use Rattle.vs_design.specs.Expressions.{Expression, items_of, width}
use Rattle.vs_design.specs.Fits.{is_fit, fit_items, fits_statement, fits_arms}
use Rattle.vs_design.specs.Footprints.{contains, statement_bits, arms_bits}
use Rattle.vs_design.specs.Races.{blocking_bits, arms_blocking, nonblocking_bits, arms_nonblocking}
use Rattle.vs_design.specs.Sizes.{distinct, items_weight, statement_weight, arms_weight}
use Rattle.vs_design.specs.Statements.{CaseKind, Statement, Arms, Arm, Default}
use Rattle.vs_flat.specs.declared.statements.Arm as F
use Rattle.vs_flat.specs.Arena.{Arena}
use Rattle.vs_flat.specs.Trees.{arms_tree, branch}
use Rattle.vs_shape.specs.Bodies.{EachArmNames, body_of}
use Rattle.vs_shape.specs.Nodes.{EachBelow, tree_of}
use Rattle.vs_values.specs.Coded.{Coding}
use Rattle.vs_values.specs.Environments.{placed}
use Rattle.vs_lower.specs.Joined.{AreJoinable, AreJoined}
use Rattle.vs_lower.specs.Stated.{IsStatementReady, AddsArm, AddsBranch, AddsCases, AddsStatement, AreAmong, AreApart, AreArmsReady, AreInOrder, HasKeptSides, IsArmReady, listed}
use Rattle.vs_lower.specs.Tested.{AddsTests, AreTestsReady}
use Rattle.vs_values.proofs.Adding.{env_more}
use Rattle.vs_lower.proofs.Apart.{apart_first, apart_rest, arms_blocking_among, arms_nonblocking_among, left_among, right_among, outside}
use Rattle.vs_lower.proofs.Branched.{IsKept, fork, have_sides, kept_more, later_kept, now_kept, statement_later, statement_now}
use Rattle.vs_lower.proofs.Branching.{put_back}
use Rattle.vs_lower.proofs.Casing as C
use Rattle.vs_lower.proofs.Casing.{adds_default}
use Rattle.vs_lower.proofs.Conditional.{AreForked, HasGrown, both_joinable, both_merge, total_of}
use Rattle.vs_lower.proofs.Distinct.{distinct_most}
use Rattle.vs_lower.proofs.Homeward.{rising_once}
use Rattle.vs_lower.proofs.Joining.{neither, picked, picked_below}
use Rattle.vs_lower.proofs.Placing.{by_test, placed_all, placed_other}
use Rattle.vs_values.proofs.Environments.{placed_length}
use Rattle.vs_values.proofs.Values.{both_true}
use Rattle.vs_design.specs.Within.{names_within, items_within, statement_within, arms_within}

-- ---- lists

pub all_fit : (es : List Expression) → fit_items (items_of es) ≡ true → All (λ e. is_fit e ≡ true) es
all_fit [] h = All-nil (λ e. is_fit e ≡ true)
all_fit (e ∷ es) h = let q = both_true (is_fit e) (fit_items (items_of es)) h in All-cons (λ e. is_fit e ≡ true) e es q.0 (all_fit es q.1)

pub all_within : (n : ℕ) (es : List Expression) → items_within n (items_of es) ≡ true → All (λ e. names_within n e ≡ true) es
all_within n [] h = All-nil (λ e. names_within n e ≡ true)
all_within n (e ∷ es) h = let q = both_true (names_within n e) (items_within n (items_of es)) h in All-cons (λ e. names_within n e ≡ true) e es q.0 (all_within n es q.1)

pub all_listed : (w : ℕ) (es : List Expression) → All (λ e. width e ≤ w) (listed (items_of es)) → All (λ e. width e ≤ w) es
all_listed w es h = subst (All (λ e. width e ≤ w)) (same es) h
  where
    same : (es : List Expression) → listed (items_of es) ≡ es
    same [] = refl
    same (e ∷ es) = ap (λ (xs : List Expression). e ∷ xs) (same es)

pub items_count : (es : List Expression) (w : ℕ) → length es ≤ items_weight (items_of es) w
items_count [] w = omega arith
items_count (e ∷ es) w = omega (arith, items_count es w)

-- ---- what the arms leave

-- a value is told by any, and the calls make the same stores
any : N.State → BitList
any state = []

pub arms_now : (now later subject : List ℕ) (old new : Coding) (kind : CaseKind) (w : ℕ) (s : Bool) (many : ℕ) (arms : Arms) (bits now_slots later_slots : List ℕ)
    → (o : AddsCases now later subject old new kind w s many arms bits now_slots later_slots) → IsKept now o.now_after (arms_blocking arms) new.next
arms_now now later subject old new kind w s many arms bits now_slots later_slots o = let d = o.adds any in record { long = d.done.now_length; same = d.done.now_kept; below = d.done.now_env.below }

pub arms_later : (now later subject : List ℕ) (old new : Coding) (kind : CaseKind) (w : ℕ) (s : Bool) (many : ℕ) (arms : Arms) (bits now_slots later_slots : List ℕ)
    → (o : AddsCases now later subject old new kind w s many arms bits now_slots later_slots) → IsKept later o.later_after (arms_nonblocking arms) new.next
arms_later now later subject old new kind w s many arms bits now_slots later_slots o = let d = o.adds any in record { long = d.done.later_length; same = d.done.later_kept; below = d.done.later_env.below }

pub arms_grown : (now later subject : List ℕ) (old new : Coding) (kind : CaseKind) (w : ℕ) (s : Bool) (many : ℕ) (arms : Arms) (bits now_slots later_slots : List ℕ)
    → AddsCases now later subject old new kind w s many arms bits now_slots later_slots → HasGrown old new (arms_weight arms w many)
arms_grown now later subject old new kind w s many arms bits now_slots later_slots o =
    let d = o.adds any in
    let total = total_of old new d.calls d.is in
    record { grown = d.done.added.grown; slots = omega (arith, d.done.added.paid, d.done.added.stores); stores = omega (arith, total, d.done.added.stores) }

pub tests_grown : (now subject : List ℕ) (old new : Coding) (kind : CaseKind) (w : ℕ) (s : Bool) (items : List Expression) (ms : List ℕ) → AddsTests now subject old new kind w s items ms → HasGrown old new (items_weight (items_of items) w)
tests_grown now subject old new kind w s items ms x =
    let d = x.condition any in
    let total = total_of old new x.calls x.is in
    record { grown = d.added.grown; slots = omega (arith, d.added.paid, d.added.stores); stores = omega (arith, total, d.added.stores) }

pub statement_grown : (now later : List ℕ) (old new : Coding) (st : Statement) (now1 later1 : List ℕ) → AddsStatement now later old new st now1 later1 → HasGrown old new (statement_weight st)
statement_grown now later old new st now1 later1 d =
    let total = total_of old new d.calls d.is in
    record { grown = d.done.added.grown; slots = omega (arith, d.done.added.paid, d.done.added.stores); stores = omega (arith, total, d.done.added.stores) }

-- ---- what an arm needs

-- what stands behind an arm needs no more
pub ready_behind : (count : ℕ) (now later subject : List ℕ) (code : Coding) (w many : ℕ) (items : List Expression) (st : Statement) (rest : Arms)
    → AreArmsReady count now later subject code w many (Arm (items_of items) st rest) → AreArmsReady count now later subject code w many rest
ready_behind count now later subject code w many items st rest r = record {
  now_env = r.now_env;
  later_env = r.later_env;
  now_bits = r.now_bits;
  later_bits = r.later_bits;
  long = r.long;
  below = r.below;
  some = r.some;
  at_most_64 = r.at_most_64;
  wide = r.wide.1;
  names = (both_true (items_within count (items_of items) && statement_within count st) (arms_within count rest) r.names).1;
  fit = (both_true (fit_items (items_of items) && fits_statement st) (fits_arms rest) r.fit).1;
  apart = apart_rest (blocking_bits st) (arms_blocking rest) (nonblocking_bits st) (arms_nonblocking rest) r.apart;
  light = omega (arith, r.light);
  slots = omega (arith, r.slots);
  few = omega (arith, r.few);
}

pub ready_after : (count : ℕ) (now later subject : List ℕ) (code : Coding) (w many : ℕ) (tree : ℕ → Expression) (st : ℕ → Statement) (other : Option ℕ) (arms : List F.Arm) (n : ℕ)
    → AreArmsReady count now later subject code w many (arms_tree tree st other arms) → AreArmsReady count now later subject code w many (arms_tree tree st other (drop n arms))
ready_after count now later subject code w many tree st other arms zero r = r
ready_after count now later subject code w many tree st other [] (suc n) r = r
ready_after count now later subject code w many tree st other (a ∷ arms) (suc n) r =
    ready_after count now later subject code w many tree st other arms n (ready_behind count now later subject code w many (map tree a.items) (st a.statement) (arms_tree tree st other arms) r)

-- the default
pub ready_default : (count : ℕ) (now later subject : List ℕ) (code : Coding) (w many : ℕ) (st : Statement) → AreArmsReady count now later subject code w many (Default st) → IsStatementReady count now later code st
ready_default count now later subject code w many st r = record {
  now_env = r.now_env;
  later_env = r.later_env;
  now_bits = r.now_bits;
  later_bits = r.later_bits;
  names = r.names;
  fit = r.fit;
  apart = r.apart;
  light = r.light;
  slots = r.slots;
  few = r.few;
}

pub default_cases : (now later subject : List ℕ) (old new : Coding) (kind : CaseKind) (w : ℕ) (s : Bool) (many : ℕ) (st : Statement) (bits now_slots later_slots : List ℕ)
    → AddsBranch now later old new st bits now_slots later_slots → AddsCases now later subject old new kind w s many (Default st) bits now_slots later_slots
default_cases now later subject old new kind w s many st bits now_slots later_slots b = record {
  now_after = b.now_after;
  later_after = b.later_after;
  adds = λ sv. adds_default now later subject sv old new kind w s many st b.now_after b.later_after b.adds;
  now_are = b.now_are;
  later_are = b.later_are;
}

-- ---- what stands behind an arm

all_of : (count : ℕ) (env bits : List ℕ) → length env ≡ count → All (λ b. b < count) bits → All (λ b. b < length env) bits
all_of count env bits e h = All-weaker (λ b. b < count) (λ b. b < length env) (λ b l. omega (arith, l, e)) bits h

-- the environments in which the slots behind it are placed
pub behind_placed : (count : ℕ) (now later subject : List ℕ) (old new : Coding) (kind : CaseKind) (w : ℕ) (s : Bool) (many : ℕ) (arms : Arms) (bits now_slots later_slots : List ℕ)
    → length now ≡ count → length later ≡ count → All (λ b. b < count) bits → AreAmong (arms_bits arms) bits
    → (o : AddsCases now later subject old new kind w s many arms bits now_slots later_slots)
    → (placed now (map Some bits) now_slots ≡ o.now_after) × (placed later (map Some bits) later_slots ≡ o.later_after)
behind_placed count now later subject old new kind w s many arms bits now_slots later_slots ln ll inside among o =
    let k = arms_now now later subject old new kind w s many arms bits now_slots later_slots o in
    let l = arms_later now later subject old new kind w s many arms bits now_slots later_slots o in (
      ap (λ (to : List ℕ). placed now (map Some bits) to) o.now_are
          ∙ put_back now o.now_after bits (sym k.long) (all_of count now bits ln inside) (λ b out. sym (k.same b (outside (arms_blocking arms) (arms_bits arms) b (arms_blocking_among arms) (outside (arms_bits arms) bits b among out)))),
      ap (λ (to : List ℕ). placed later (map Some bits) to) o.later_are
          ∙ put_back later o.later_after bits (sym l.long) (all_of count later bits ll inside) (λ b out. sym (l.same b (outside (arms_nonblocking arms) (arms_bits arms) b (arms_nonblocking_among arms) (outside (arms_bits arms) bits b among out)))),
    )

kept_sides : (now later : List ℕ) (st : Statement) (rest : Arms) (bits now_slots later_slots now_after later_after : List ℕ) (n m : ℕ) → AreApart (blocking_bits st ++ arms_blocking rest) (nonblocking_bits st ++ arms_nonblocking rest)
    → placed now (map Some bits) now_slots ≡ now_after → placed later (map Some bits) later_slots ≡ later_after
    → IsKept now now_after (arms_blocking rest) n → IsKept later later_after (arms_nonblocking rest) m → HasKeptSides now later st bits now_slots later_slots
kept_sides now later st rest bits now_slots later_slots now_after later_after n m apart en el k l b =
    by_test (contains (nonblocking_bits st ++ arms_nonblocking rest) b)
    (λ e. let q = neither (blocking_bits st) (arms_blocking rest) b (apart b e) in inl (q.0, ap (λ (x : List ℕ). slice_index x b) en ∙ k.same b q.1))
    (λ e. let q = neither (nonblocking_bits st) (arms_nonblocking rest) b e in inr (q.0, ap (λ (x : List ℕ). slice_index x b) el ∙ l.same b q.1))

-- an arm, after what stands behind it
pub ready_arm : (count : ℕ) (now later subject : List ℕ) (c0 c1 : Coding) (kind : CaseKind) (w : ℕ) (s : Bool) (writes : List ℕ) (items : List Expression) (st : Statement) (rest : Arms) (bits behind_now behind_later : List ℕ)
    → AreArmsReady count now later subject c0 w (distinct writes) (Arm (items_of items) st rest) → 1 ≤ length items → AreInOrder count bits writes → AreAmong (statement_bits st ++ arms_bits rest) writes
    → AddsCases now later subject c0 c1 kind w s (distinct writes) rest bits behind_now behind_later
    → IsArmReady count now later subject c1 w items st bits behind_now behind_later
ready_arm count now later subject c0 c1 kind w s writes items st rest bits behind_now behind_later r some i among o =
    let g = arms_grown now later subject c0 c1 kind w s (distinct writes) rest bits behind_now behind_later o in
    let k = arms_now now later subject c0 c1 kind w s (distinct writes) rest bits behind_now behind_later o in
    let l = arms_later now later subject c0 c1 kind w s (distinct writes) rest bits behind_now behind_later o in
    let is = behind_placed count now later subject c0 c1 kind w s (distinct writes) rest bits behind_now behind_later r.now_bits r.later_bits i.inside (λ c h. i.all c (right_among (statement_bits st) (arms_bits rest) writes among c h)) o in
    let x = both_true (fit_items (items_of items) && fits_statement st) (fits_arms rest) r.fit in
    let y = both_true (fit_items (items_of items)) (fits_statement st) x.0 in
    let n = both_true (items_within count (items_of items) && statement_within count st) (arms_within count rest) r.names in
    let m = both_true (items_within count (items_of items)) (statement_within count st) n.0 in
    let most = distinct_most writes bits (rising_once bits i.rising) i.alone in
    record {
      now_env = env_more now c0.next c1.next g.grown r.now_env;
      later_env = env_more later c0.next c1.next g.grown r.later_env;
      now_bits = r.now_bits;
      later_bits = r.later_bits;
      long = r.long;
      below = All-weaker (λ slot. slot < c0.next) (λ slot. slot < c1.next) (λ slot h. omega (arith, h, g.grown)) subject r.below;
      some = r.some;
      at_most_64 = r.at_most_64;
      items_some = some;
      items_fit = all_fit items y.0;
      items_wide = all_listed w items r.wide.0;
      items_names = all_within count items m.0;
      names = m.1;
      fit = y.1;
      apart = apart_first (blocking_bits st) (arms_blocking rest) (nonblocking_bits st) (arms_nonblocking rest) r.apart;
      sides = kept_sides now later st rest bits behind_now behind_later o.now_after o.later_after c1.next c1.next r.apart is.0 is.1 k l;
      now_long = sym (ap (λ (xs : List ℕ). length xs) o.now_are ∙ length-map bits (slice_index o.now_after));
      later_long = sym (ap (λ (xs : List ℕ). length xs) o.later_are ∙ length-map bits (slice_index o.later_after));
      now_below = subst (All (λ slot. slot < c1.next)) (sym o.now_are) (picked_below o.now_after c1.next bits (all_of count o.now_after bits (k.long ∙ r.now_bits) i.inside) k.below);
      later_below = subst (All (λ slot. slot < c1.next)) (sym o.later_are) (picked_below o.later_after c1.next bits (all_of count o.later_after bits (l.long ∙ r.later_bits) i.inside) l.below);
      light = omega (arith, r.light, most);
      slots = omega (arith, r.slots, g.slots, most);
      few = omega (arith, r.few, g.stores, most);
    }

-- ---- the parts of an arm

pub arm_statement : (count : ℕ) (now later subject : List ℕ) (code one : Coding) (kind : CaseKind) (w : ℕ) (s : Bool) (items : List Expression) (st : Statement) (bits behind_now behind_later ms : List ℕ)
    → IsArmReady count now later subject code w items st bits behind_now behind_later → AddsTests now subject code one kind w s items ms → IsStatementReady count now later one st
arm_statement count now later subject code one kind w s items st bits behind_now behind_later ms r x =
    let g = tests_grown now subject code one kind w s items ms x in
    record {
      now_env = env_more now code.next one.next g.grown r.now_env;
      later_env = env_more later code.next one.next g.grown r.later_env;
      now_bits = r.now_bits;
      later_bits = r.later_bits;
      names = r.names;
      fit = r.fit;
      apart = r.apart;
      light = omega (arith, r.light);
      slots = omega (arith, r.slots, g.slots);
      few = omega (arith, r.few, g.stores);
    }

pub arm_tests : (count : ℕ) (now later subject : List ℕ) (code : Coding) (w : ℕ) (items : List Expression) (st : Statement) (bits behind_now behind_later : List ℕ)
    → IsArmReady count now later subject code w items st bits behind_now behind_later → AreTestsReady now subject code items w
arm_tests count now later subject code w items st bits behind_now behind_later r = record {
  is_env = r.now_env;
  long = r.long;
  below = r.below;
  some = r.some;
  at_most_64 = r.at_most_64;
  fit = r.items_fit;
  wide = r.items_wide;
  names = subst (λ (n : ℕ). All (λ e. names_within n e ≡ true) items) (sym r.now_bits) r.items_names;
  light = omega (arith, r.light);
  slots = omega (arith, r.slots);
  few = omega (arith, r.few);
}

-- ---- the arm with what stands behind it

-- what its joins begin with
arm_forked : (count : ℕ) (now later subject : List ℕ) (c0 c1 c4 : Coding) (kind : CaseKind) (w : ℕ) (s : Bool) (writes : List ℕ) (items : List Expression) (st : Statement) (rest : Arms) (bits behind_now behind_later now_slots later_slots : List ℕ)
    → AreArmsReady count now later subject c0 w (distinct writes) (Arm (items_of items) st rest) → 1 ≤ length items → AreInOrder count bits writes → AreAmong (statement_bits st ++ arms_bits rest) writes
    → (o : AddsCases now later subject c0 c1 kind w s (distinct writes) rest bits behind_now behind_later)
    → (a : AddsArm now later subject c1 c4 kind w s items st bits behind_now behind_later now_slots later_slots)
    → AreForked count bits a.branch.now_after a.branch.later_after o.now_after o.later_after a.matches a.branched
arm_forked count now later subject c0 c1 c4 kind w s writes items st rest bits behind_now behind_later now_slots later_slots r some i among o a =
    let c2 = a.tested in
    let c3 = a.branched in
    let b = a.branch in
    let g1 = arms_grown now later subject c0 c1 kind w s (distinct writes) rest bits behind_now behind_later o in
    let g2 = tests_grown now subject c1 c2 kind w s items a.matches a.tests in
    let g3 = statement_grown now later c2 c3 st b.now_after b.later_after b.adds in
    let k = arms_now now later subject c0 c1 kind w s (distinct writes) rest bits behind_now behind_later o in
    let l = arms_later now later subject c0 c1 kind w s (distinct writes) rest bits behind_now behind_later o in
    let fewer = items_count items w in
    let most = distinct_most writes bits (rising_once bits i.rising) i.alone in
    let all : AreAmong (statement_bits st ++ arms_bits rest) bits = λ c h. i.all c (among c h) in
    let up : c1.next ≤ c3.next = omega (arith, g2.grown, g3.grown) in
    record {
      now = fork now b.now_after o.now_after (statement_bits st) (arms_bits rest) bits c3.next c3.next c1.next (omega arith) up all (statement_now now later c2 c3 st b.now_after b.later_after b.adds)
          (kept_more now o.now_after (arms_blocking rest) (arms_bits rest) c1.next (arms_blocking_among rest) k);
      later = fork later b.later_after o.later_after (statement_bits st) (arms_bits rest) bits c3.next c3.next c1.next (omega arith) up all (statement_later now later c2 c3 st b.now_after b.later_after b.adds)
          (kept_more later o.later_after (arms_nonblocking rest) (arms_bits rest) c1.next (arms_nonblocking_among rest) l);
      now_long = k.long ∙ r.now_bits;
      later_long = l.long ∙ r.later_bits;
      inside = i.inside;
      sides = have_sides now later b.now_after b.later_after o.now_after o.later_after (blocking_bits st) (arms_blocking rest) (nonblocking_bits st) (arms_nonblocking rest) c3.next c1.next c3.next c1.next r.apart
          (now_kept now later c2 c3 st b.now_after b.later_after b.adds) k (later_kept now later c2 c3 st b.now_after b.later_after b.adds) l;
      below = All-weaker (λ slot. slot < c2.next) (λ slot. slot < c3.next) (λ slot h. omega (arith, h, g3.grown)) a.matches (a.tests.condition any).below;
      some = omega (arith, a.alike, some);
      short = omega (arith, a.alike, fewer, r.slots);
      constants = omega (arith, r.now_env.constants, g1.grown, up);
      slots = omega (arith, r.slots, most, g1.slots, g2.slots, g3.slots);
      few = omega (arith, r.few, most, g1.stores, g2.stores, g3.stores);
    }

pub adds_arm : (count : ℕ) (now later subject : List ℕ) (c0 c1 c4 : Coding) (kind : CaseKind) (w : ℕ) (s : Bool) (writes : List ℕ) (items : List Expression) (st : Statement) (rest : Arms) (bits behind_now behind_later now_slots later_slots : List ℕ)
    → AreArmsReady count now later subject c0 w (distinct writes) (Arm (items_of items) st rest) → 1 ≤ length items → AreInOrder count bits writes → AreAmong (statement_bits st ++ arms_bits rest) writes
    → AddsCases now later subject c0 c1 kind w s (distinct writes) rest bits behind_now behind_later
    → AddsArm now later subject c1 c4 kind w s items st bits behind_now behind_later now_slots later_slots
    → AddsCases now later subject c0 c4 kind w s (distinct writes) (Arm (items_of items) st rest) bits now_slots later_slots
adds_arm count now later subject c0 c1 c4 kind w s writes items st rest bits behind_now behind_later now_slots later_slots r some i among o a =
    let b = a.branch in
    let c3 = a.branched in
    let is = behind_placed count now later subject c0 c1 kind w s (distinct writes) rest bits behind_now behind_later r.now_bits r.later_bits i.inside (λ c h. i.all c (right_among (statement_bits st) (arms_bits rest) writes among c h)) o in
    let ms = a.matches in
    let n3 = a.join.now_after in
    let l3 = a.join.later_after in
    let j = subst (λ (x : List ℕ). AreJoined ms bits x (picked b.later_after bits) o.now_after o.later_after n3 l3 c3 c4) b.now_are
    (subst (λ (x : List ℕ). AreJoined ms bits a.first_now x o.now_after o.later_after n3 l3 c3 c4) b.later_are
    (subst (λ (x : List ℕ). AreJoined ms bits a.first_now a.first_later x o.later_after n3 l3 c3 c4) is.0
    (subst (λ (x : List ℕ). AreJoined ms bits a.first_now a.first_later (placed now (map Some bits) behind_now) x n3 l3 c3 c4) is.1 a.join.joined))) in
    let f = arm_forked count now later subject c0 c1 c4 kind w s writes items st rest bits behind_now behind_later now_slots later_slots r some i among o a in
    let m = both_merge count bits b.now_after b.later_after o.now_after o.later_after ms n3 l3 c3 c4 f j in
    record {
      now_after = n3;
      later_after = l3;
      adds = λ sv. C.adds_arm now later subject sv c0 c1 a.tested c3 c4 kind w s (distinct writes) items st rest ms bits b.now_after b.later_after o.now_after o.later_after n3 l3 r.now_env r.later_env r.below
          (o.adds sv) a.tests b.adds m (distinct_most writes bits (rising_once bits i.rising) i.alone);
      now_are = a.join.now_are;
      later_are = a.join.later_are;
    }

-- ---- the calls of its joins

branch_forked : (count : ℕ) (now later subject : List ℕ) (code one two : Coding) (kind : CaseKind) (w : ℕ) (s : Bool) (items : List Expression) (st : Statement) (bits behind_now behind_later ms first_now first_later : List ℕ)
    → IsArmReady count now later subject code w items st bits behind_now behind_later → AddsTests now subject code one kind w s items ms → length ms ≡ length items
    → (b : AddsBranch now later one two st bits first_now first_later) → All (λ b. b < count) bits → AreAmong (statement_bits st) bits
    → AreForked count bits b.now_after b.later_after (placed now (map Some bits) behind_now) (placed later (map Some bits) behind_later) ms two
branch_forked count now later subject code one two kind w s items st bits behind_now behind_later ms first_now first_later r x alike b inside among =
    let g2 = tests_grown now subject code one kind w s items ms x in
    let g3 = statement_grown now later one two st b.now_after b.later_after b.adds in
    let k = statement_now now later one two st b.now_after b.later_after b.adds in
    let l = statement_later now later one two st b.now_after b.later_after b.adds in
    let up : code.next ≤ two.next = omega (arith, g2.grown, g3.grown) in
    let more : (xs : List ℕ) → All (λ slot. slot < code.next) xs → All (λ slot. slot < two.next) xs = λ xs h. All-weaker (λ slot. slot < code.next) (λ slot. slot < two.next) (λ slot l. omega (arith, l, up)) xs h in
    let counted = items_count items w in
    record {
      now = record {
        long = k.long ∙ sym (placed_length now (map Some bits) behind_now);
        same = λ c out. k.same c (outside (statement_bits st) bits c among out) ∙ sym (placed_other now bits behind_now c out);
        below1 = k.below;
        below2 = placed_all (λ slot. slot < two.next) now (map Some bits) behind_now (more behind_now r.now_below) (more now r.now_env.below);
      };
      later = record {
        long = l.long ∙ sym (placed_length later (map Some bits) behind_later);
        same = λ c out. l.same c (outside (statement_bits st) bits c among out) ∙ sym (placed_other later bits behind_later c out);
        below1 = l.below;
        below2 = placed_all (λ slot. slot < two.next) later (map Some bits) behind_later (more behind_later r.later_below) (more later r.later_env.below);
      };
      now_long = placed_length now (map Some bits) behind_now ∙ r.now_bits;
      later_long = placed_length later (map Some bits) behind_later ∙ r.later_bits;
      inside = inside;
      sides = λ c. side c (r.sides c);
      below = All-weaker (λ slot. slot < one.next) (λ slot. slot < two.next) (λ slot h. omega (arith, h, g3.grown)) ms (x.condition any).below;
      some = omega (arith, alike, r.items_some);
      short = omega (arith, alike, counted, r.slots);
      constants = omega (arith, r.now_env.constants, up);
      slots = omega (arith, r.slots, g2.slots, g3.slots);
      few = omega (arith, r.few, g2.stores, g3.stores);
    }
  where
    side : (c : ℕ) → ((contains (blocking_bits st) c ≡ false) × (slice_index (placed now (map Some bits) behind_now) c ≡ slice_index now c)) ⊎ ((contains (nonblocking_bits st) c ≡ false) × (slice_index (placed later (map Some bits) behind_later) c ≡ slice_index later c))
        → (slice_index b.now_after c ≡ slice_index (placed now (map Some bits) behind_now) c) ⊎ (slice_index b.later_after c ≡ slice_index (placed later (map Some bits) behind_later) c)
    side c (inl h) = inl (b.adds.done.now_kept c h.0 ∙ sym h.1)
    side c (inr h) = inr (b.adds.done.later_kept c h.0 ∙ sym h.1)

pub arm_callable : (count : ℕ) (now later v a subject : List ℕ) (code one two : Coding) (kind : CaseKind) (w : ℕ) (s : Bool) (items : List Expression) (st : Statement) (bits behind_now behind_later ms first_now first_later : List ℕ)
    → IsArmReady count now later subject code w items st bits behind_now behind_later → AddsTests now subject code one kind w s items ms → length ms ≡ length items
    → AddsBranch now later one two st bits first_now first_later → All (λ b. b < count) bits → AreAmong (statement_bits st) bits
    → v ≡ now → a ≡ later
    → AreJoinable ms bits first_now first_later (placed v (map Some bits) behind_now) (placed a (map Some bits) behind_later) two
arm_callable count now later v a subject code one two kind w s items st bits behind_now behind_later ms first_now first_later r x alike b inside among ev ea =
    subst (λ (y : List ℕ). AreJoinable ms bits first_now first_later (placed y (map Some bits) behind_now) (placed a (map Some bits) behind_later) two) (sym ev)
    (subst (λ (y : List ℕ). AreJoinable ms bits first_now first_later (placed now (map Some bits) behind_now) (placed y (map Some bits) behind_later) two) (sym ea)
    (both_joinable count bits b.now_after b.later_after (placed now (map Some bits) behind_now) (placed later (map Some bits) behind_later) ms first_now first_later two
    (branch_forked count now later subject code one two kind w s items st bits behind_now behind_later ms first_now first_later r x alike b inside among) b.now_are b.later_are))

-- ---- the arm of this number

at_get : (arms : List F.Arm) (n : ℕ) (d : F.Arm) → n < length arms → slice_get arms n ≡ Some (get_or arms n d)
at_get [] n d l = absurd (omega arith)
at_get (a ∷ arms) zero d l = refl
at_get (a ∷ arms) (suc n) d l = at_get arms n d (omega arith)

pub any_default : (arms : List F.Arm) (n : ℕ) (d e : F.Arm) → n < length arms → get_or arms n d ≡ get_or arms n e
any_default [] n d e l = absurd (omega arith)
any_default (a ∷ arms) zero d e l = refl
any_default (a ∷ arms) (suc n) d e l = any_default arms n d e (omega arith)

each_all : (n : ℕ) (ms : List ℕ) → EachBelow n ms → All (λ m. m < n) ms
each_all n [] h = All-nil (λ m. m < n)
each_all n (m ∷ ms) h = All-cons (λ m. m < n) m ms (h 0 (omega arith)) (each_all n ms (λ k l. h (suc k) (omega arith)))

pub record ArmAt (nodes : ℕ) (a : Arena) (s : ℕ) (other : Option ℕ) (arms : List F.Arm) (n : ℕ) (arm : F.Arm) : Type 0 where
  pub items : All (λ e. e < nodes) arm.items
  pub statement : arm.statement < s
  pub some : 1 ≤ length arm.items
  pub tree : arms_tree (tree_of a) (body_of a) other (drop n arms) ≡ Arm (items_of (map (tree_of a) arm.items)) (body_of a arm.statement) (arms_tree (tree_of a) (body_of a) other (drop (n + 1) arms))

pub arm_there : (nodes : ℕ) (a : Arena) (s : ℕ) (other : Option ℕ) (arms : List F.Arm) (n : ℕ) (d : F.Arm) → n < length arms → EachArmNames nodes s arms → All (λ (arm : F.Arm). 1 ≤ length arm.items) arms → ArmAt nodes a s other arms n (get_or arms n d)
arm_there nodes a s other arms n d l names some =
    let here = names n (get_or arms n d) (at_get arms n d l) in
    record {
      items = each_all nodes (get_or arms n d).items here.items;
      statement = here.statement;
      some = some n d l;
      tree = ap (arms_tree (tree_of a) (body_of a) other) (drop_more arms n d l);
    }

after_among : (tree : ℕ → Expression) (st : ℕ → Statement) (other : Option ℕ) (arms : List F.Arm) (n : ℕ) → AreAmong (arms_bits (arms_tree tree st other (drop n arms))) (arms_bits (arms_tree tree st other arms))
after_among tree st other arms zero b h = h
after_among tree st other [] (suc n) b h = h
after_among tree st other (a ∷ arms) (suc n) b h =
    right_among (statement_bits (st a.statement)) (arms_bits (arms_tree tree st other arms)) (arms_bits (arms_tree tree st other (a ∷ arms))) (λ c k. k) b (after_among tree st other arms n b h)

-- what is needed and what is given at the arm before the last k
pub record AtArm (nodes count : ℕ) (a : Arena) (s : ℕ) (v ah now later subject : List ℕ) (c0 c1 : Coding) (kind : CaseKind) (w : ℕ) (signed : Bool) (other : Option ℕ) (arms : List F.Arm) (k n : ℕ) (items : List ℕ) (part : ℕ) (bits behind_now behind_later : List ℕ) : Type 0 where
  pub items_there : All (λ e. e < nodes) items
  pub part_below : part < s
  pub ready : IsArmReady count v ah subject c1 w (map (tree_of a) items) (body_of a part) bits behind_now behind_later
  pub among : AreAmong (statement_bits (body_of a part)) bits
  pub next : (c4 : Coding) (now_slots later_slots : List ℕ) → AddsArm v ah subject c1 c4 kind w signed (map (tree_of a) items) (body_of a part) bits behind_now behind_later now_slots later_slots
      → AddsCases now later subject c0 c4 kind w signed (distinct (arms_bits (arms_tree (tree_of a) (body_of a) other arms))) (arms_tree (tree_of a) (body_of a) other (drop (length arms - (k + 1)) arms)) bits now_slots later_slots

pub at_arm : (nodes count : ℕ) (a : Arena) (s : ℕ) (v ah now later subject : List ℕ) (c0 c1 : Coding) (kind : CaseKind) (w : ℕ) (signed : Bool) (other : Option ℕ) (arms : List F.Arm) (k n : ℕ) (d e : F.Arm) (items : List ℕ) (part : ℕ) (bits behind_now behind_later : List ℕ)
    → k < length arms → n ≡ length arms - 1 - k → items ≡ (get_or arms n d).items → part ≡ (get_or arms n e).statement → v ≡ now → ah ≡ later
    → EachArmNames nodes s arms → All (λ (arm : F.Arm). 1 ≤ length arm.items) arms
    → AreArmsReady count now later subject c0 w (distinct (arms_bits (arms_tree (tree_of a) (body_of a) other arms))) (arms_tree (tree_of a) (body_of a) other arms)
    → AreInOrder count bits (arms_bits (arms_tree (tree_of a) (body_of a) other arms))
    → AddsCases now later subject c0 c1 kind w signed (distinct (arms_bits (arms_tree (tree_of a) (body_of a) other arms))) (arms_tree (tree_of a) (body_of a) other (drop (length arms - k) arms)) bits behind_now behind_later
    → AtArm nodes count a s v ah now later subject c0 c1 kind w signed other arms k n items part bits behind_now behind_later
at_arm nodes count a s v ah now later subject c0 c1 kind w signed other arms k n d e items part bits behind_now behind_later l is ei ep ev ea names some r i o =
    let T = tree_of a in
    let B = body_of a in
    let arm = get_or arms n d in
    let writes = arms_bits (arms_tree T B other arms) in
    let m : n < length arms = omega (arith, l, is) in
    let here = arm_there nodes a s other arms n d m names some in
    let part_is : part ≡ arm.statement = ep ∙ ap (λ (x : F.Arm). x.statement) (any_default arms n e d m) in
    let past : length arms - k ≡ n + 1 = omega (arith, l, is) in
    let left : length arms - (k + 1) ≡ n = omega (arith, l, is) in
    let rest = arms_tree T B other (drop (n + 1) arms) in
    let behind_is = subst (λ (q : ℕ). AddsCases now later subject c0 c1 kind w signed (distinct writes) (arms_tree T B other (drop q arms)) bits behind_now behind_later) past o in
    let all_ready = subst (AreArmsReady count now later subject c0 w (distinct writes)) here.tree (ready_after count now later subject c0 w (distinct writes) T B other arms n r) in
    let among : AreAmong (statement_bits (B arm.statement) ++ arms_bits rest) writes = λ b h. after_among T B other arms n b (ap (λ (x : Arms). contains (arms_bits x) b) here.tree ∙ h) in
    let some_items : 1 ≤ length (map T arm.items) = omega (arith, here.some, length-map arm.items T) in
    let ready = ready_arm count now later subject c0 c1 kind w signed writes (map T arm.items) (B arm.statement) rest bits behind_now behind_later all_ready some_items i among behind_is in
    record {
      items_there = subst (All (λ x. x < nodes)) (sym ei) here.items;
      part_below = omega (arith, part_is, here.statement);
      ready = subst (λ (x : List ℕ). IsArmReady count x ah subject c1 w (map T items) (B part) bits behind_now behind_later) (sym ev)
          (subst (λ (x : List ℕ). IsArmReady count now x subject c1 w (map T items) (B part) bits behind_now behind_later) (sym ea)
          (subst (λ (x : List ℕ). IsArmReady count now later subject c1 w (map T x) (B part) bits behind_now behind_later) (sym ei)
          (subst (λ (x : ℕ). IsArmReady count now later subject c1 w (map T arm.items) (B x) bits behind_now behind_later) (sym part_is) ready)));
      among = λ b h. i.all b (left_among (statement_bits (B arm.statement)) (arms_bits rest) writes among b (ap (λ (x : ℕ). contains (statement_bits (B x)) b) (sym part_is) ∙ h));
      next = λ c4 now_slots later_slots x.
          subst (λ (q : ℕ). AddsCases now later subject c0 c4 kind w signed (distinct writes) (arms_tree T B other (drop q arms)) bits now_slots later_slots) (sym left)
          (subst (λ (y : Arms). AddsCases now later subject c0 c4 kind w signed (distinct writes) y bits now_slots later_slots) (sym here.tree)
          (adds_arm count now later subject c0 c1 c4 kind w signed writes (map T arm.items) (B arm.statement) rest bits behind_now behind_later now_slots later_slots all_ready some_items i among behind_is
          (subst (λ (y : ℕ). AddsArm now later subject c1 c4 kind w signed (map T arm.items) (B y) bits behind_now behind_later now_slots later_slots) part_is
          (subst (λ (y : List ℕ). AddsArm now later subject c1 c4 kind w signed (map T y) (B part) bits behind_now behind_later now_slots later_slots) ei
          (subst (λ (y : List ℕ). AddsArm now y subject c1 c4 kind w signed (map T items) (B part) bits behind_now behind_later now_slots later_slots) ea
          (subst (λ (y : List ℕ). AddsArm y ah subject c1 c4 kind w signed (map T items) (B part) bits behind_now behind_later now_slots later_slots) ev x))))));
    }

-- at the default none is before
pub no_arm : (now later subject : List ℕ) (old new : Coding) (kind : CaseKind) (w : ℕ) (s : Bool) (many : ℕ) (tree : ℕ → Expression) (st : ℕ → Statement) (other : Option ℕ) (arms : List F.Arm) (bits now_slots later_slots : List ℕ)
    → AddsBranch now later old new (branch st other) bits now_slots later_slots → AddsCases now later subject old new kind w s many (arms_tree tree st other (drop (length arms - 0) arms)) bits now_slots later_slots
no_arm now later subject old new kind w s many tree st other arms bits now_slots later_slots b =
    let zero_less : length arms - 0 ≡ length arms = omega arith in
    subst (λ (xs : List F.Arm). AddsCases now later subject old new kind w s many (arms_tree tree st other xs) bits now_slots later_slots) (sym (ap (λ n. drop n arms) zero_less ∙ drop_whole arms))
    (default_cases now later subject old new kind w s many (branch st other) bits now_slots later_slots b)
  where
    drop_whole : (xs : List F.Arm) → drop (length xs) xs ≡ []
    drop_whole [] = refl
    drop_whole (x ∷ xs) = drop_whole xs

-- what the default needs
pub ready_branch : (count : ℕ) (now later subject : List ℕ) (code : Coding) (w many : ℕ) (tree : ℕ → Expression) (st : ℕ → Statement) (other : Option ℕ) (arms : List F.Arm)
    → AreArmsReady count now later subject code w many (arms_tree tree st other arms) → IsStatementReady count now later code (branch st other)
ready_branch count now later subject code w many tree st other [] r = ready_default count now later subject code w many (branch st other) r
ready_branch count now later subject code w many tree st other (a ∷ arms) r =
    ready_branch count now later subject code w many tree st other arms (ready_behind count now later subject code w many (map tree a.items) (st a.statement) (arms_tree tree st other arms) r)

pub branch_among : (tree : ℕ → Expression) (st : ℕ → Statement) (other : Option ℕ) (arms : List F.Arm) → AreAmong (statement_bits (branch st other)) (arms_bits (arms_tree tree st other arms))
branch_among tree st other [] b h = h
branch_among tree st other (a ∷ arms) b h =
    right_among (statement_bits (st a.statement)) (arms_bits (arms_tree tree st other arms)) (arms_bits (arms_tree tree st other (a ∷ arms))) (λ c k. k) b (branch_among tree st other arms b h)

-- the items of all arms fit
pub items_are_fit : (tree : ℕ → Expression) (st : ℕ → Statement) (other : Option ℕ) (arms : List F.Arm) → fits_arms (arms_tree tree st other arms) ≡ true → All (λ (arm : F.Arm). All (λ e. is_fit (tree e) ≡ true) arm.items) arms
items_are_fit tree st other [] h = All-nil (λ (arm : F.Arm). All (λ e. is_fit (tree e) ≡ true) arm.items)
items_are_fit tree st other (a ∷ arms) h =
    let x = both_true (fit_items (items_of (map tree a.items)) && fits_statement (st a.statement)) (fits_arms (arms_tree tree st other arms)) h in
    let y = both_true (fit_items (items_of (map tree a.items))) (fits_statement (st a.statement)) x.0 in
    All-cons (λ (arm : F.Arm). All (λ e. is_fit (tree e) ≡ true) arm.items) a arms (each_fit a.items y.0) (items_are_fit tree st other arms x.1)
  where
    each_fit : (es : List ℕ) → fit_items (items_of (map tree es)) ≡ true → All (λ e. is_fit (tree e) ≡ true) es
    each_fit [] k = All-nil (λ e. is_fit (tree e) ≡ true)
    each_fit (e ∷ es) k = let q = both_true (is_fit (tree e)) (fit_items (items_of (map tree es))) k in All-cons (λ e. is_fit (tree e) ≡ true) e es q.0 (each_fit es q.1)

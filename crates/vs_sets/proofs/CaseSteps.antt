-- Items and arms of a case, one after the other.
use Rattle.std.proofs.Common.{◌≡◌, ℕ, zero, suc, ◌+◌, ◌<◌, ◌≤◌, Bool, true, false, List, [], ◌∷◌, ◌++◌, length, map, drop, get_or, Option, Some, refl, sym, ap, ◌∙◌, arith}
use Rattle.std.specs.Prelude.{◌&&◌, max, nat_le, slice_get}
use Rattle.std.specs.List.{list_any, list_all}
use Rattle.std.proofs.lemmas.List.{drop_more}
use Rattle.std.proofs.lemmas.Bool.Decides.{nat_tests}
use Rattle.vs_design.specs.Expressions.{Expression, Items, NoItem, Item, items_of, width}
use Rattle.vs_design.specs.Statements.{Statement, Arms, Arm, Default, widest, all_signed, arms_width, arms_sign}
use Rattle.vs_design.specs.Fits.{is_fit, fit_items, fits_statement, fits_arms}
use Rattle.vs_flat.specs.declared.statements.Arm as F
use Rattle.vs_design.specs.Within.{items_within, statement_within, arms_within}
use Rattle.vs_flat.specs.Trees as R
use Rattle.std.specs.Prelude.{if◌then◌else◌}
use Rattle.std.proofs.lemmas.Bool.{cond-true, cond-false}
use Rattle.vs_design.specs.Statements.{CaseKind}
use Rattle.vs_design.specs.Sets.{Set4, is_only_one}
use Rattle.vs_design.specs.Lifted.{Family}
use Rattle.vs_design.specs.LiftedBodies.{item_sets}
use Rattle.vs_design.specs.Sleepers.{at_once, arms_at_once}
use Rattle.vs_sets.specs.Branches.{taken_arms}
use Rattle.vs_sets.specs.Matches.{are_within, items_at, branches_of}
use Rattle.vs_sets.proofs.Fit.{and_left, and_right, and_both}

-- what holds of all trees holds of each
pub each_true : (p : Expression → Bool) (tree : ℕ → Expression) (ns : List ℕ) (k : ℕ) → list_all p (map tree ns) ≡ true → k < length ns → p (tree (get_or ns k 0)) ≡ true
each_true p tree [] k h inside = absurd (omega arith)
each_true p tree (n ∷ ns) zero h inside = and_left (p (tree n)) _ h
each_true p tree (n ∷ ns) (suc k) h inside = each_true p tree ns k (and_right (p (tree n)) _ h) (omega arith)

-- what fits fits each by itself
pub each_fit_item : (tree : ℕ → Expression) (ns : List ℕ) (k : ℕ) → fit_items (items_of (map tree ns)) ≡ true → k < length ns → is_fit (tree (get_or ns k 0)) ≡ true
each_fit_item tree [] k h inside = absurd (omega arith)
each_fit_item tree (n ∷ ns) zero h inside = and_left (is_fit (tree n)) (fit_items (items_of (map tree ns))) h
each_fit_item tree (n ∷ ns) (suc k) h inside = each_fit_item tree ns k (and_right (is_fit (tree n)) (fit_items (items_of (map tree ns))) h) (omega arith)

pub item_step : (tree : ℕ → Expression) (ns : List ℕ) (k : ℕ) → k < length ns → map tree (drop k ns) ≡ tree (get_or ns k 0) ∷ map tree (drop (k + 1) ns)
item_step tree ns k h = ap (map tree) (drop_more ns k 0 h)

pub each_within : (w : ℕ) (tree : ℕ → Expression) (ns : List ℕ) (k : ℕ) → are_within w (map tree ns) ≡ true → k < length ns → width (tree (get_or ns k 0)) ≤ w
each_within w tree ns k h inside = let e = each_true (λ e. nat_le (width e) w) tree ns k h inside in grind (arith, nat_tests, e)

-- ---- arms

pub arm_items_within : (count : ℕ) (tree : ℕ → Expression) (statement : ℕ → Statement) (other : Option ℕ) (arms : List F.Arm) (k : ℕ) (d : F.Arm) → arms_within count (R.arms_tree tree statement other arms) ≡ true → k < length arms
    → items_within count (items_of (map tree ((get_or arms k d).items))) ≡ true
arm_items_within count tree statement other [] k d h inside = absurd (omega arith)
arm_items_within count tree statement other (x ∷ arms) zero d h inside = and_left _ _ (and_left (items_within count (items_of (map tree x.items)) && statement_within count (statement x.statement)) _ h)
arm_items_within count tree statement other (x ∷ arms) (suc k) d h inside = arm_items_within count tree statement other arms k d (and_right (items_within count (items_of (map tree x.items)) && statement_within count (statement x.statement)) _ h) (omega arith)

pub arm_fit : (tree : ℕ → Expression) (statement : ℕ → Statement) (other : Option ℕ) (arms : List F.Arm) (k : ℕ) (d : F.Arm) → fits_arms (R.arms_tree tree statement other arms) ≡ true → k < length arms
    → fit_items (items_of (map tree ((get_or arms k d).items))) ≡ true
arm_fit tree statement other [] k d h inside = absurd (omega arith)
arm_fit tree statement other (arm ∷ arms) zero d h inside = and_left (fit_items (items_of (map tree arm.items))) (fits_statement (statement arm.statement)) (and_left _ _ h)
arm_fit tree statement other (arm ∷ arms) (suc k) d h inside =
    arm_fit tree statement other arms k d (and_right (fit_items (items_of (map tree arm.items)) && fits_statement (statement arm.statement)) _ h) (omega arith)

pub items_at-is : (arms : List F.Arm) (k : ℕ) (d : F.Arm) → k < length arms → items_at arms k ≡ (get_or arms k d).items
items_at-is [] k d h = absurd (omega arith)
items_at-is (arm ∷ arms) zero d h = refl
items_at-is (arm ∷ arms) (suc k) d h = items_at-is arms k d (omega arith)

-- an arm that isn't surely taken
pub arm_step : (tree : ℕ → Expression) (statement : ℕ → Statement) (other : Option ℕ) (arms : List F.Arm) (k : ℕ) (arm : F.Arm) (kind : CaseKind) (w : ℕ) (s : Bool) (subject : List Set4) (f : Family)
    → k < length arms → arm ≡ get_or arms k arm
    → list_any is_only_one (item_sets kind w s subject (items_of (map tree arm.items)) f) ≡ false
    → taken_arms (arms_at_once (R.arms_tree tree statement other (drop k arms))) kind w s subject f
    ≡ (if list_any (λ (m : Set4). m.one?) (item_sets kind w s subject (items_of (map tree arm.items)) f)
    then (at_once (statement arm.statement) ∷ taken_arms (arms_at_once (R.arms_tree tree statement other (drop (k + 1) arms))) kind w s subject f)
    else taken_arms (arms_at_once (R.arms_tree tree statement other (drop (k + 1) arms))) kind w s subject f)
arm_step tree statement other arms k arm kind w s subject f h is unsure =
    ap (λ xs. taken_arms (arms_at_once (R.arms_tree tree statement other xs)) kind w s subject f) (drop_more arms k arm h ∙ ap (λ x. x ∷ drop (k + 1) arms) (sym is))
    ∙ cond-false (list_any is_only_one (item_sets kind w s subject (items_of (map tree arm.items)) f)) _ _ unsure

-- and one that is
pub sure_step : (tree : ℕ → Expression) (statement : ℕ → Statement) (other : Option ℕ) (arms : List F.Arm) (k : ℕ) (arm : F.Arm) (kind : CaseKind) (w : ℕ) (s : Bool) (subject : List Set4) (f : Family)
    → k < length arms → arm ≡ get_or arms k arm
    → list_any is_only_one (item_sets kind w s subject (items_of (map tree arm.items)) f) ≡ true
    → taken_arms (arms_at_once (R.arms_tree tree statement other (drop k arms))) kind w s subject f ≡ at_once (statement arm.statement) ∷ []
sure_step tree statement other arms k arm kind w s subject f h is sure =
    ap (λ xs. taken_arms (arms_at_once (R.arms_tree tree statement other xs)) kind w s subject f) (drop_more arms k arm h ∙ ap (λ x. x ∷ drop (k + 1) arms) (sym is))
    ∙ cond-true (list_any is_only_one (item_sets kind w s subject (items_of (map tree arm.items)) f)) _ _ sure

pub branches_push : (st : ℕ → Statement) (bs : List (Option ℕ)) (b : Option ℕ) → branches_of st (bs ++ b ∷ []) ≡ branches_of st bs ++ at_once (R.branch st b) ∷ []
branches_push st [] b = refl
branches_push st (c ∷ bs) b = ap (λ xs. at_once (R.branch st c) ∷ xs) (branches_push st bs b)

-- ---- the length of a case

widest_grows : (w : ℕ) (es : Items) → w ≤ widest w es
widest_grows w NoItem = omega arith
widest_grows w (Item e es) = omega (arith, widest_grows (max w (width e)) es)

pub arms_grow : (arms : Arms) (w : ℕ) → w ≤ arms_width arms w
arms_grow (Arm items s rest) w = omega (arith, widest_grows w items, arms_grow rest (widest w items))
arms_grow (Default s) w = omega arith

within_test : (m n : ℕ) → m ≤ n → nat_le m n ≡ true
within_test m n h = grind (arith, nat_tests, h)

each_item : (w : ℕ) (es : List Expression) (top : ℕ) → widest w (items_of es) ≤ top → are_within top es ≡ true
each_item w [] top h = refl
each_item w (e ∷ es) top h =
    and_both (nat_le (width e) top) (are_within top es) (within_test (width e) top (omega (arith, widest_grows (max w (width e)) (items_of es), h))) (each_item (max w (width e)) es top h)

-- each arm's items are no longer than the case
pub arm_within : (tree : ℕ → Expression) (statement : ℕ → Statement) (other : Option ℕ) (arms : List F.Arm) (w top k : ℕ) → arms_width (R.arms_tree tree statement other arms) w ≤ top → k < length arms
    → are_within top (map tree (items_at arms k)) ≡ true
arm_within tree statement other [] w top k h inside = absurd (omega arith)
arm_within tree statement other (arm ∷ arms) w top zero h inside =
    each_item w (map tree arm.items) top (omega (arith, arms_grow (R.arms_tree tree statement other arms) (widest w (items_of (map tree arm.items))), h))
arm_within tree statement other (arm ∷ arms) w top (suc k) h inside = arm_within tree statement other arms (widest w (items_of (map tree arm.items))) top k h (omega arith)

pub width_at_once : (arms : Arms) (w : ℕ) → arms_width (arms_at_once arms) w ≡ arms_width arms w
width_at_once (Arm items s rest) w = width_at_once rest (widest w items)
width_at_once (Default s) w = refl

pub sign_at_once : (arms : Arms) (s : Bool) → arms_sign (arms_at_once arms) s ≡ arms_sign arms s
sign_at_once (Arm items t rest) s = sign_at_once rest (all_signed s items)
sign_at_once (Default t) s = refl

-- whatever its statements are
pub width_of_arms : (tree : ℕ → Expression) (st next : ℕ → Statement) (other : Option ℕ) (arms : List F.Arm) (w : ℕ) → arms_width (R.arms_tree tree st other arms) w ≡ arms_width (R.arms_tree tree next other arms) w
width_of_arms tree st next other [] w = refl
width_of_arms tree st next other (arm ∷ arms) w = width_of_arms tree st next other arms (widest w (items_of (map tree arm.items)))

pub sign_of_arms : (tree : ℕ → Expression) (st next : ℕ → Statement) (other : Option ℕ) (arms : List F.Arm) (s : Bool) → arms_sign (R.arms_tree tree st other arms) s ≡ arms_sign (R.arms_tree tree next other arms) s
sign_of_arms tree st next other [] s = refl
sign_of_arms tree st next other (arm ∷ arms) s = sign_of_arms tree st next other arms (all_signed s (items_of (map tree arm.items)))

pub get_is : {A : Type 0} (xs : List A) (k : ℕ) (x : A) → k < length xs → x ≡ get_or xs k x → slice_get xs k ≡ Some x
get_is [] k x h e = absurd (omega arith)
get_is (y ∷ ys) zero x h e = ap Some (sym e)
get_is (y ∷ ys) (suc k) x h e = get_is ys k x (omega arith) e

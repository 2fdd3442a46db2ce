-- Weights of lists, step by step.
use Rattle.std.proofs.Common.{◌≡◌, ℕ, zero, suc, ◌+◌, ◌<◌, Bool, true, false, if◌then◌else◌, List, [], ◌∷◌, length, map, drop, get_or, Option, Some, None, Result, Ok, Err, refl, sym, ap, ◌∙◌, subst, arith}
use Rattle.std.specs.Prelude.{◌==◌, unwrap_or, is_some, IfOk, slice_get}
use Rattle.std.proofs.lemmas.List.{drop_more}
use Rattle.vs_design.specs.Expressions.{Expression, Join, Repeat, At, items_of}
use Rattle.vs_design.specs.Statements.{Whole, Statement}
use Rattle.vs_design.specs.Fits.{is_fit, fit_items, fits_target}
use Rattle.vs_design.specs.Sizes.{weight, arms_weight, target_weight, items_weight, statement_weight}
use Rattle.std.specs.Prelude.{◌&&◌}
use Rattle.vs_design.specs.Fits.{fits_statement, fits_arms}
use Rattle.vs_flat.specs.declared.statements.Arm as F
use Rattle.vs_flat.specs.Arena.{Arena}
use Rattle.vs_shape.specs.Bodies.{body_of}
use Rattle.vs_sets.specs.StatementParts.{ArmsBelow, BranchBelow}
use Rattle.vs_sets.specs.Twice.{BranchFits}
use Rattle.vs_sets.proofs.Fit.{and_left, and_right}
use Rattle.vs_sets.proofs.TwiceSteps.{case_fit}
use Rattle.vs_typed.specs.Weights.{EachArmFits, arms_of}
use Rattle.vs_flat.specs.Targets.{target_of}
use Rattle.vs_flat.specs.Trees.{joined, no_signal, target_tree, sequence, arms_tree}
use Rattle.vs_shape.specs.Nodes.{EachBelow, tree_of}
use Rattle.vs_sets.specs.TargetsOf.{IsTarget}
use Rattle.vs_sets.proofs.Fit.{fit_parts}
use Rattle.vs_sets.proofs.TargetFacts.{both_facts}
use Rattle.vs_typed.specs.Weights.{capped, own_weight, own_weights, EachFits, IsWeight}

pub if_ok : {V W : Type 0} {P Q : V → Type 0} (r : Result V W) → IfOk r P → ((v : V) → P v → Q v) → IfOk r Q
if_ok (Ok v) h k = k v h
if_ok (Err e) h k = h

-- ---- concatenations

pub joined_weight : (es : List Expression) → own_weight (joined es) ≡ own_weights es
joined_weight [] = refl
joined_weight (e ∷ []) = omega arith
joined_weight (e ∷ f ∷ es) = ap (λ n. own_weight e + n) (joined_weight (f ∷ es))

pub joined_fit : (tree : ℕ → Expression) (parts : List ℕ) (k : ℕ) → k < length parts → is_fit (joined (map tree parts)) ≡ true → is_fit (tree (get_or parts k 0)) ≡ true
joined_fit tree [] k inside h = absurd (omega arith)
joined_fit tree (p ∷ []) zero inside h = h
joined_fit tree (p ∷ []) (suc k) inside h = absurd (omega arith)
joined_fit tree (p ∷ q ∷ parts) zero inside h = (fit_parts (Join (tree p) (joined (map tree (q ∷ parts)))) h).1
joined_fit tree (p ∷ q ∷ parts) (suc k) inside h = joined_fit tree (q ∷ parts) k (omega arith) ((fit_parts (Join (tree p) (joined (map tree (q ∷ parts)))) h).2)

pub parts_fit : (a : Arena) (e : ℕ) (parts : List ℕ) → EachBelow e parts → is_fit (joined (map (tree_of a) parts)) ≡ true → EachFits a e parts
parts_fit a e parts below h k inside = (below k inside, joined_fit (tree_of a) parts k inside h)

pub own_step : (tree : ℕ → Expression) (parts : List ℕ) (k sum after : ℕ) → k < length parts → after ≡ capped (sum + own_weight (tree (get_or parts k 0))) → capped (after + own_weights (map tree (drop (k + 1) parts))) ≡ capped (sum + own_weights (map tree (drop k parts)))
own_step tree parts k sum after h is = let e = ap (λ ps. own_weights (map tree ps)) (drop_more parts k 0 h) in omega (arith, is, e)

-- ---- targets

abbrev pub target_weights : List Expression → ℕ
target_weights [] = 0
target_weights (e ∷ es) = target_weight (target_tree e) + target_weights es

pub joined_targets : (es : List Expression) → IsTarget (joined es) → target_weight (target_tree (joined es)) ≡ target_weights es
joined_targets [] h = absurd (let e = h.is in let z : ⊥ = cc in z)
joined_targets (e ∷ []) h = omega arith
joined_targets (e ∷ f ∷ es) h =
    let b = both_facts e (joined (f ∷ es)) h in
    ap target_weight b.is ∙ ap (λ n. target_weight (target_tree e) + n) (joined_targets (f ∷ es) b.low_target)

pub part_target : (tree : ℕ → Expression) (parts : List ℕ) (k : ℕ) → k < length parts → IsTarget (joined (map tree parts)) → IsTarget (tree (get_or parts k 0))
part_target tree [] k inside h = absurd (omega arith)
part_target tree (p ∷ []) zero inside h = h
part_target tree (p ∷ []) (suc k) inside h = absurd (omega arith)
part_target tree (p ∷ q ∷ parts) zero inside h = (both_facts (tree p) (joined (map tree (q ∷ parts))) h).high_target
part_target tree (p ∷ q ∷ parts) (suc k) inside h = part_target tree (q ∷ parts) k (omega arith) ((both_facts (tree p) (joined (map tree (q ∷ parts))) h).low_target)

-- of a concatenation of one copy
pub record IsCopy (t x : Expression) : Type 0 where
  pub target : IsTarget x
  pub same : target_tree t ≡ target_tree x

pub copy_target : (place count : ℕ) (x : Expression) → IsTarget (At place (Repeat count x)) → IsCopy (At place (Repeat count x)) x
copy_target place count x h = at (count == 1) refl h.is where
  at : (k : Bool) → (count == 1) ≡ k → (if k then target_of x else None) ≡ Some (target_tree (At place (Repeat count x))) → IsCopy (At place (Repeat count x)) x
  at true e i =
      let tree : target_tree (At place (Repeat count x)) ≡ target_tree x = ap (λ k. unwrap_or (if k then target_of x else None) (Whole no_signal)) e in
      record { target = record { is = i ∙ ap Some tree; fits = ap fits_target (sym tree) ∙ h.fits }; same = tree }
  at false e i = absurd (let z : ⊥ = cc in z)

pub target_step : (tree : ℕ → Expression) (parts : List ℕ) (k sum after : ℕ) → k < length parts → after ≡ capped (sum + target_weight (target_tree (tree (get_or parts k 0)))) → capped (after + target_weights (map tree (drop (k + 1) parts))) ≡ capped (sum + target_weights (map tree (drop k parts)))
target_step tree parts k sum after h is = let e = ap (λ ps. target_weights (map tree ps)) (drop_more parts k 0 h) in omega (arith, is, e)

-- ---- items and sequences

pub item_step : (tree : ℕ → Expression) (items : List ℕ) (w k sum after : ℕ) → k < length items → after ≡ capped (sum + (w + 1 + weight (tree (get_or items k 0)) w))
    → capped (after + items_weight (items_of (map tree (drop (k + 1) items))) w) ≡ capped (sum + items_weight (items_of (map tree (drop k items))) w)
item_step tree items w k sum after h is = let e = ap (λ ps. items_weight (items_of (map tree ps)) w) (drop_more items k 0 h) in omega (arith, is, e)

next_weight : (s : Statement) (ss : List Statement) → statement_weight (sequence (s ∷ ss)) ≡ statement_weight s + statement_weight (sequence ss)
next_weight s [] = omega arith
next_weight s (t ∷ ss) = refl

pub sequence_step : (st : ℕ → Statement) (parts : List ℕ) (k sum after : ℕ) → k < length parts → after ≡ capped (sum + statement_weight (st (get_or parts k 0)))
    → capped (after + statement_weight (sequence (map st (drop (k + 1) parts)))) ≡ capped (sum + statement_weight (sequence (map st (drop k parts))))
sequence_step st parts k sum after h is =
    let e = ap (λ ps. statement_weight (sequence (map st ps))) (drop_more parts k 0 h) ∙ next_weight (st (get_or parts k 0)) (map st (drop (k + 1) parts)) in
    omega (arith, is, e)

-- ---- arms

arms_next : (tree : ℕ → Expression) (st : ℕ → Statement) (other : Option ℕ) (arms : List F.Arm) (w written k : ℕ) (arm : F.Arm) → slice_get arms k ≡ Some arm
    → arms_weight (arms_tree tree st other (drop k arms)) w written ≡ items_weight (items_of (map tree arm.items)) w + written + statement_weight (st arm.statement) + arms_weight (arms_tree tree st other (drop (suc k) arms)) w written
arms_next tree st other [] w written k arm e = absurd (let z : ⊥ = cc in z)
arms_next tree st other (x ∷ arms) w written zero arm e =
    let same : x ≡ arm = cc in
    ap (λ (y : F.Arm). items_weight (items_of (map tree y.items)) w + written + statement_weight (st y.statement) + arms_weight (arms_tree tree st other arms) w written) same
arms_next tree st other (x ∷ arms) w written (suc k) arm e = arms_next tree st other arms w written k arm e

pub arm_step : (tree : ℕ → Expression) (st : ℕ → Statement) (other : Option ℕ) (arms : List F.Arm) (w written k sum after : ℕ) (arm : F.Arm) → slice_get arms k ≡ Some arm
    → after ≡ capped (sum + (items_weight (items_of (map tree arm.items)) w + written + statement_weight (st arm.statement)))
    → capped (after + arms_weight (arms_tree tree st other (drop (k + 1) arms)) w written) ≡ capped (sum + arms_weight (arms_tree tree st other (drop k arms)) w written)
arm_step tree st other arms w written k sum after arm at is =
    let on : k + 1 ≡ suc k = omega arith in
    let e = arms_next tree st other arms w written k arm at in
    ap (λ n. capped (after + arms_weight (arms_tree tree st other (drop n arms)) w written)) on ∙ omega (arith, e, is)

pub each_item : (tree : ℕ → Expression) (items : List ℕ) (k : ℕ) → fit_items (items_of (map tree items)) ≡ true → k < length items → is_fit (tree (get_or items k 0)) ≡ true
each_item tree [] k h inside = absurd (omega arith)
each_item tree (x ∷ items) zero h inside = and_left _ _ h
each_item tree (x ∷ items) (suc k) h inside = each_item tree items k (and_right (is_fit (tree x)) _ h) (omega arith)

arm_items : (tree : ℕ → Expression) (st : ℕ → Statement) (other : Option ℕ) (arms : List F.Arm) (k : ℕ) (arm : F.Arm) → fits_arms (arms_tree tree st other arms) ≡ true → slice_get arms k ≡ Some arm → fit_items (items_of (map tree arm.items)) ≡ true
arm_items tree st other [] k arm h e = absurd (let z : ⊥ = cc in z)
arm_items tree st other (x ∷ arms) zero arm h e =
    let same : x ≡ arm = cc in
    subst (λ (y : F.Arm). fit_items (items_of (map tree y.items)) ≡ true) same (and_left _ _ (and_left _ _ h))
arm_items tree st other (x ∷ arms) (suc k) arm h e = arm_items tree st other arms k arm (and_right (fit_items (items_of (map tree x.items)) && fits_statement (st x.statement)) _ h) e

-- what is known of the arms of a case
pub arms_fit : (a : Arena) (nodes s : ℕ) (arms : List F.Arm) (other : Option ℕ) → ArmsBelow nodes s arms → BranchBelow s other → fits_arms (arms_of a other arms) ≡ true → EachArmFits a nodes s arms × BranchFits a s other
arms_fit a nodes s arms other below otherwise fit =
    let facts = case_fit a nodes s arms other below otherwise fit in
    (λ k arm e. let f = facts.0 k arm e in (λ j inside. ((below k arm e).0 j inside, each_item (tree_of a) arm.items j (arm_items (tree_of a) (body_of a) other arms k arm fit e) inside), f.0, f.1), facts.1)

-- ---- calls

pub weighed : (s : Statement) (o : Option ℕ) → IsWeight s o → fits_statement s ≡ true → unwrap_or o 0 ≡ capped (statement_weight s)
weighed s None h fit = absurd (apart (fits_statement s) h fit)
  where
    apart : (b : Bool) → b ≡ false → b ≡ true → ⊥
    apart true h k = cc
    apart false h k = cc
weighed s (Some w) h fit = h.1

pub weighed_fits : (s : Statement) (o : Option ℕ) → IsWeight s o → is_some o ≡ fits_statement s
weighed_fits s None h = sym h
weighed_fits s (Some w) h = sym h.0

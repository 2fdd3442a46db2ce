-- Whether expressions are constant, one after the other.
use Rattle.std.proofs.Common.{◌≡◌, ℕ, zero, suc, ◌+◌, ◌<◌, Bool, true, false, ◌&&◌, List, [], ◌∷◌, map, drop, get_or, length, refl, sym, ap, ◌∙◌, arith, Option, Some}
use Rattle.std.specs.Prelude.{slice_get}
use Rattle.std.proofs.lemmas.List.{drop_more}
use Rattle.vs_design.specs.Elaborated.{has_constant_selects}
use Rattle.vs_design.specs.Expressions.{Expression, items_of, is_constant}
use Rattle.vs_design.specs.Statements.{Statement}
use Rattle.vs_flat.specs.declared.statements.Arm as F
use Rattle.vs_flat.specs.Trees.{joined, sequence, arms_tree, target_tree}
use Rattle.vs_typed.specs.Places.{HasTargetTree}
use Rattle.vs_typed.proofs.FoundSteps.{two_targets}
use Rattle.vs_typed.specs.Still.{items_still, is_still, arms_still}

pub and_assoc : (a b c : Bool) → ((a && b) && c) ≡ (a && (b && c))
and_assoc true b c = refl
and_assoc false b c = refl

pub and_end : (a : Bool) → (a && true) ≡ a
and_end true = refl
and_end false = refl

-- one more
pub step : (all one rest after : Bool) → after ≡ (all && one) → (after && rest) ≡ (all && (one && rest))
step all one rest after h = ap (λ k. k && rest) h ∙ and_assoc all one rest

-- ---- targets

abbrev pub selects_all : List Expression → Bool
selects_all [] = true
selects_all (e ∷ es) = has_constant_selects (target_tree e) && selects_all es

pub joined_selects : (es : List Expression) → HasTargetTree (joined es) → has_constant_selects (target_tree (joined es)) ≡ selects_all es
joined_selects [] h = absurd (let z : ⊥ = cc in z)
joined_selects (e ∷ []) h = sym (and_end (has_constant_selects (target_tree e)))
joined_selects (e ∷ f ∷ es) h =
    let b = two_targets e (joined (f ∷ es)) h in
    ap has_constant_selects b.both ∙ ap (λ k. has_constant_selects (target_tree e) && k) (joined_selects (f ∷ es) b.low_is)

pub select_step : (tree : ℕ → Expression) (parts : List ℕ) (k : ℕ) (all after : Bool) → k < length parts → after ≡ (all && has_constant_selects (target_tree (tree (get_or parts k 0)))) → (after && selects_all (map tree (drop (k + 1) parts))) ≡ (all && selects_all (map tree (drop k parts)))
select_step tree parts k all after h is =
    step all (has_constant_selects (target_tree (tree (get_or parts k 0)))) (selects_all (map tree (drop (k + 1) parts))) after is ∙ ap (λ ps. all && selects_all (map tree ps)) (sym (drop_more parts k 0 h))

-- ---- items, sequences and arms

pub item_step : (tree : ℕ → Expression) (items : List ℕ) (k : ℕ) (all after : Bool) → k < length items → after ≡ (all && is_constant (tree (get_or items k 0))) → (after && items_still (items_of (map tree (drop (k + 1) items)))) ≡ (all && items_still (items_of (map tree (drop k items))))
item_step tree items k all after h is =
    step all (is_constant (tree (get_or items k 0))) (items_still (items_of (map tree (drop (k + 1) items)))) after is ∙ ap (λ ps. all && items_still (items_of (map tree ps))) (sym (drop_more items k 0 h))

next_still : (s : Statement) (ss : List Statement) → is_still (sequence (s ∷ ss)) ≡ (is_still s && is_still (sequence ss))
next_still s [] = sym (and_end (is_still s))
next_still s (t ∷ ss) = refl

pub sequence_step : (st : ℕ → Statement) (parts : List ℕ) (k : ℕ) (all after : Bool) → k < length parts → after ≡ (all && is_still (st (get_or parts k 0))) → (after && is_still (sequence (map st (drop (k + 1) parts)))) ≡ (all && is_still (sequence (map st (drop k parts))))
sequence_step st parts k all after h is =
    step all (is_still (st (get_or parts k 0))) (is_still (sequence (map st (drop (k + 1) parts)))) after is
    ∙ ap (λ b. all && b) (sym (next_still (st (get_or parts k 0)) (map st (drop (k + 1) parts)))) ∙ ap (λ ps. all && is_still (sequence (map st ps))) (sym (drop_more parts k 0 h))

arms_from : (tree : ℕ → Expression) (st : ℕ → Statement) (other : Option ℕ) (arms : List F.Arm) (k : ℕ) (arm : F.Arm) → slice_get arms k ≡ Some arm
    → arms_still (arms_tree tree st other (drop k arms)) ≡ (items_still (items_of (map tree arm.items)) && (is_still (st arm.statement) && arms_still (arms_tree tree st other (drop (suc k) arms))))
arms_from tree st other [] k arm e = absurd (let z : ⊥ = cc in z)
arms_from tree st other (x ∷ arms) zero arm e =
    let same : x ≡ arm = cc in
    ap (λ (y : F.Arm). items_still (items_of (map tree y.items)) && (is_still (st y.statement) && arms_still (arms_tree tree st other arms))) same
arms_from tree st other (x ∷ arms) (suc k) arm e = arms_from tree st other arms k arm e

pub arm_step : (tree : ℕ → Expression) (st : ℕ → Statement) (other : Option ℕ) (arms : List F.Arm) (k : ℕ) (arm : F.Arm) (all items after : Bool) → slice_get arms k ≡ Some arm → items ≡ (all && items_still (items_of (map tree arm.items)))
    → after ≡ (items && is_still (st arm.statement)) → (after && arms_still (arms_tree tree st other (drop (k + 1) arms))) ≡ (all && arms_still (arms_tree tree st other (drop k arms)))
arm_step tree st other arms k arm all items after e i h =
    let on : k + 1 ≡ suc k = omega arith in
    let rest = arms_still (arms_tree tree st other (drop (suc k) arms)) in
    ap (λ n. after && arms_still (arms_tree tree st other (drop n arms))) on
    ∙ step items (is_still (st arm.statement)) rest after h ∙ step all (items_still (items_of (map tree arm.items))) (is_still (st arm.statement) && rest) items i
    ∙ ap (λ b. all && b) (sym (arms_from tree st other arms k arm e))

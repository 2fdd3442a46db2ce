-- Arms of constants.
use Rattle.std.proofs.Common.{◌≡◌, ℕ, zero, suc, ◌<◌, true, List, [], ◌∷◌, length, map, get_or, Option, arith}
use Rattle.vs_design.specs.Expressions.{Expression, items_of, is_constant}
use Rattle.vs_design.specs.Statements.{Statement}
use Rattle.vs_flat.specs.declared.statements.Arm as F
use Rattle.vs_flat.specs.Trees as R
use Rattle.vs_typed.specs.Still.{items_still}
use Rattle.vs_zero.specs.Constants.{arms_are_constants}
use Rattle.vs_sets.proofs.Fit.{and_left, and_right}

pub each_constant : (tree : ℕ → Expression) (ns : List ℕ) (k : ℕ) → items_still (items_of (map tree ns)) ≡ true → k < length ns → is_constant (tree (get_or ns k 0)) ≡ true
each_constant tree [] k h inside = absurd (omega arith)
each_constant tree (n ∷ ns) zero h inside = and_left (is_constant (tree n)) (items_still (items_of (map tree ns))) h
each_constant tree (n ∷ ns) (suc k) h inside = each_constant tree ns k (and_right (is_constant (tree n)) (items_still (items_of (map tree ns))) h) (omega arith)

pub arm_constant : (tree : ℕ → Expression) (statement : ℕ → Statement) (other : Option ℕ) (arms : List F.Arm) (k : ℕ) (d : F.Arm) → arms_are_constants (R.arms_tree tree statement other arms) ≡ true → k < length arms
    → items_still (items_of (map tree ((get_or arms k d).items))) ≡ true
arm_constant tree statement other [] k d h inside = absurd (omega arith)
arm_constant tree statement other (arm ∷ arms) zero d h inside = and_left (items_still (items_of (map tree arm.items))) _ h
arm_constant tree statement other (arm ∷ arms) (suc k) d h inside = arm_constant tree statement other arms k d (and_right (items_still (items_of (map tree arm.items))) _ h) (omega arith)

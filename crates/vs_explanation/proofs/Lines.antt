-- What stands behind newlines, one more of which was passed.
use Rattle.std.proofs.Common.{◌≡◌, ℕ, suc, ◌-◌, ◌<◌, List, Option, Some, sym, ◌∙◌, refl, arith}
use Rattle.vs_explanation.specs.Rows.{behind_newline, behind_newlines}

step : (left fewer : ℕ) (rest next : List ℕ) → left ≡ suc fewer → behind_newline rest ≡ Some next → behind_newlines left rest ≡ behind_newlines fewer next
step left fewer rest next e at = rw (e, at) refl

pub one_passed : (left : ℕ) (rest next : List ℕ) (whole : Option (List ℕ)) → 0 < left → behind_newline rest ≡ Some next → behind_newlines left rest ≡ whole
    → behind_newlines (left - 1) next ≡ whole
one_passed left rest next whole some at before = let fewer : left ≡ suc (left - 1) = omega (arith, some) in sym (step left (left - 1) rest next fewer at) ∙ before

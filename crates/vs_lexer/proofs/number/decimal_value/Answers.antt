use Rattle.std.proofs.Common.{◌≤◌, ◌^◌, ℕ, Option, Some, None, arith, get_or, subst}
use Rattle.std.specs.Prelude.{IfNone}
use Rattle.vs_lexer.specs.Literals.{with_digit}
use Rattle.vs_lexer.proofs.Values.{grows_more}
use Rattle.vs_lexer.proofs.number.decimal_value.Goals as goal

if_none : (o : Option ℕ) (P : Type 0) → P → IfNone o P
if_none None P p = p
if_none (Some n) P p = tt

pub returns-in_err-number-clause-large : goal.returns-in_err-number-clause-large
returns-in_err-number-clause-large c =
    let b = get_or c.args.digits.now c.loop-byte.byte-index 0 in
    let large = subst (λ n. 2 ^ 64 ≤ with_digit n b) c.loop-byte.invariant c.in_err-number.ensures.large in
    if_none c.from_residual.result _ (omega (arith, large, grows_more c.args.digits.now c.loop-byte.byte-index c.loop-byte-test.true))

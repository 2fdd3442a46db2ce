use Rattle.std.proofs.Common.{◌≡◌, ℕ, false, length, get_or, sym, ◌∙◌, arith, below_more}
use Rattle.vs_rows.specs.Rows as spec
use Rattle.vs_rows.proofs.Found.{found_from, found_nowhere}
use Rattle.vs_rows.proofs.rows.unknown_in.Goals as goal

pub returns-then-is_unknown-clause-unknown : goal.returns-then-is_unknown-clause-unknown
returns-then-is_unknown-clause-unknown c =
    let line = c.args.line.now in
    sym
    (found_from (λ (k : ℕ). spec.is_unknown (get_or line k 0)) 0 (length line) c.loop-at.at (omega arith) (omega (arith, c.loop-at-test.true))
    (sym c.is_unknown.ensures ∙ c.if-is_unknown.true) (λ k low h. c.loop-at.invariant k h))

pub loop-at-preserved : goal.loop-at-preserved
loop-at-preserved c =
    below_more (λ (k : ℕ). spec.is_unknown (get_or c.args.line.now k 0) ≡ false) c.loop-at.at c.loop-at.invariant (sym c.is_unknown.ensures ∙ c.if-is_unknown.false)

pub returns-clause-unknown : goal.returns-clause-unknown
returns-clause-unknown c =
    let line = c.args.line.now in
    sym (found_nowhere (λ (k : ℕ). spec.is_unknown (get_or line k 0)) 0 (length line) (λ k low h. c.loop-at.invariant k (omega (arith, h, c.loop-at-test.false))))

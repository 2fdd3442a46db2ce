use Rattle.std.proofs.Common.{◌≡◌, ◌≤◌, ◌-◌, ℕ, false, length, sym, ◌∙◌, arith, below_more}
use Rattle.vs_rows.specs.Rows as spec
use Rattle.vs_rows.proofs.Found.{found_from, found_nowhere}
use Rattle.vs_rows.proofs.rows.row_from.Goals as goal

pub returns-then-row_begins-clause-row : goal.returns-then-row_begins-clause-row
returns-then-row_begins-clause-row c =
    let text = c.args.text.now in
    let from = c.args.from in
    sym
    (found_from (spec.row_begins text) from (length text - from) c.loop-at.at c.loop-at.auto.at (omega (arith, c.loop-at-test.true)) (sym c.row_begins.ensures ∙ c.if-row_begins.true)
    c.loop-at.invariant)

pub loop-at-preserved : goal.loop-at-preserved
loop-at-preserved c = λ q low high.
    let text = c.args.text.now in
    below_more (λ (k : ℕ). c.args.from ≤ k → spec.row_begins text k ≡ false) c.loop-at.at (λ k h l. c.loop-at.invariant k l h)
    (λ l. sym c.row_begins.ensures ∙ c.if-row_begins.false) q high low

pub returns-clause-row : goal.returns-clause-row
returns-clause-row c =
    let text = c.args.text.now in
    let from = c.args.from in
    sym (found_nowhere (spec.row_begins text) from (length text - from) (λ q l h. c.loop-at.invariant q l (omega (arith, l, h, c.loop-at-test.false))))

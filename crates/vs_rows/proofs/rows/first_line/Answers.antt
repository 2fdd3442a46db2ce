use Rattle.std.proofs.Common.{arith, rules}
use Rattle.vs_excerpt.specs.Positions as spec
use Rattle.vs_rows.proofs.Parts.{before_one}
use Rattle.vs_rows.proofs.rows.first_line.Goals as goal
use Rattle.vs_rows.proofs.rows.first_line.Goals.{then-loop-end-test+else-not-is_lf, else-loop-end-test}

pub returns : goal.returns
returns c =
    before_one spec.is_newline c.args.text.now c.loop-end.end c.loop-end.invariant.within c.loop-end.invariant.none
    (λ h. elim c.loop-end-test.branch [
      | then-loop-end-test+else-not-is_lf w ↦ search (rules, w.if-not-is_lf.false, w.is_lf.ensures)
      | else-loop-end-test w ↦ absurd (omega (arith, h, w.loop-end-test.false))
    ])

use Rattle.std.proofs.Common.{arith, rules}
use Rattle.vs_rows.specs.Expected as spec
use Rattle.vs_rows.proofs.Parts.{before_one}
use Rattle.vs_rows.proofs.controls.before_arrow.Goals as goal
use Rattle.vs_rows.proofs.controls.before_arrow.Goals.{then-loop-end-test+else-not-arrow_at, else-loop-end-test}

pub returns : goal.returns
returns c =
    before_one (spec.arrow_at c.args.line.now) c.args.fields.now c.loop-end.end c.loop-end.invariant.within c.loop-end.invariant.none
    (λ h. elim c.loop-end-test.branch [
      | then-loop-end-test+else-not-arrow_at w ↦ search (rules, w.if-not-arrow_at.false, w.arrow_at.ensures)
      | else-loop-end-test w ↦ absurd (omega (arith, h, w.loop-end-test.false))
    ])

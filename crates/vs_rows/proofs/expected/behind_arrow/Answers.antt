use Rattle.std.proofs.Common.{◌≡◌, true, get_or, arith, rules}
use Rattle.vs_rows.specs.Expected as spec
use Rattle.vs_rows.proofs.Behind.{behind_one, behind_none}
use Rattle.vs_rows.proofs.expected.behind_arrow.Goals as goal
use Rattle.vs_rows.proofs.expected.behind_arrow.Goals.{then-loop-end-test+else-not-arrow_at, else-loop-end-test}

pub returns-then-end-fields : goal.returns-then-end-fields
returns-then-end-fields c =
    let here : spec.arrow_at c.args.line.now (get_or c.args.fields.now c.loop-end.end 0) ≡ true = elim c.loop-end-test.branch [
      | then-loop-end-test+else-not-arrow_at w ↦ search (rules, w.if-not-arrow_at.false, w.arrow_at.ensures)
      | else-loop-end-test w ↦ absurd (omega (arith, c.if-end-fields.true, w.loop-end-test.false))
    ] in
    behind_one (spec.arrow_at c.args.line.now) c.args.fields.now c.loop-end.end c.if-end-fields.true c.loop-end.invariant.none here

pub returns-else-end-fields : goal.returns-else-end-fields
returns-else-end-fields c =
    behind_none (spec.arrow_at c.args.line.now) c.args.fields.now c.loop-end.end c.loop-end.invariant.within (omega (arith, c.if-end-fields.false)) c.loop-end.invariant.none

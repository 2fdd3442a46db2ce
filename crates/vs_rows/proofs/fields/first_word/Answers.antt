use Rattle.std.proofs.Common.{arith, rules}
use Rattle.vs_rows.specs.Rows as spec
use Rattle.vs_rows.proofs.Parts.{before_one}
use Rattle.vs_rows.proofs.fields.first_word.Goals as goal
use Rattle.vs_rows.proofs.fields.first_word.Goals.{then-loop-end-test+else-not-is_blank, else-loop-end-test}

pub returns : goal.returns
returns c =
    before_one spec.is_blank c.args.text.now c.loop-end.end c.loop-end.invariant.within c.loop-end.invariant.none
    (λ h. elim c.loop-end-test.branch [
      | then-loop-end-test+else-not-is_blank w ↦ search (rules, w.if-not-is_blank.false, w.is_blank.ensures)
      | else-loop-end-test w ↦ absurd (omega (arith, h, w.loop-end-test.false))
    ])

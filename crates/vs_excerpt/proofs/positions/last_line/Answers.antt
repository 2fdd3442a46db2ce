use Rattle.std.proofs.Common.{arith, rules}
use Rattle.vs_excerpt.specs.Positions as spec
use Rattle.vs_excerpt.proofs.Parts.{behind_last}
use Rattle.vs_excerpt.proofs.positions.last_line.Goals as goal
use Rattle.vs_excerpt.proofs.positions.last_line.Goals.{then-loop-start-test+else-text-start-ne10, else-loop-start-test}

pub returns : goal.returns
returns c =
    behind_last spec.is_newline c.args.text.now c.loop-start.start c.loop-start.invariant.within c.loop-start.invariant.none
    (λ h. elim c.loop-start-test.branch [
      | then-loop-start-test+else-text-start-ne10 w ↦ search (rules, w.if-text-start-ne10.false)
      | else-loop-start-test w ↦ absurd (omega (arith, h, w.loop-start-test.false))
    ])

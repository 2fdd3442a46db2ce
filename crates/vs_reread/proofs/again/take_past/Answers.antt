use Rattle.std.proofs.Common.{◌≡◌, length, arith}
use Rattle.vs_reread.specs.Again.{most_stimulus}
use Rattle.vs_reread.proofs.Lines.{lines_taken, most_taken, file_taken}
use Rattle.vs_reread.proofs.again.take_past.Goals as goal
use Rattle.vs_reread.proofs.again.take_past.Goals.{then-taking-test+else-len-lt-MAX_STIMULUS, else-taking-test}

pub returns-then-count-eq0-clause-lines : goal.returns-then-count-eq0-clause-lines
returns-then-count-eq0-clause-lines g c =
    file_taken g.D.Desk.tells _ _ c.taking.text.items c.args.n c.taking.invariant.taken c.taking.invariant.short (λ t. c.in_ok-count.ensures.end t c.if-count-eq0.true)

pub returns-clause-lines : goal.returns-clause-lines
returns-clause-lines g c =
    elim c.taking-test.branch [
      | then-taking-test+else-len-lt-MAX_STIMULUS w ↦
          let full : length c.taking.text.items ≡ most_stimulus = omega (arith, c.taking.invariant.short, w.if-len-lt-MAX_STIMULUS.false, w.len.ensures) in
          most_taken g.D.Desk.tells _ _ c.taking.text.items c.args.n c.taking.invariant.taken full
      | else-taking-test w ↦
          lines_taken g.D.Desk.tells _ _ c.taking.text.items c.args.n c.taking.invariant.taken c.taking.invariant.short (omega (arith, c.taking.invariant.enough, w.taking-test.false))
    ]

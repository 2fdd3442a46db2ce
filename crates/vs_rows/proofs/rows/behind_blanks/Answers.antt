use Rattle.std.proofs.Common.{drop, sym, ap, ◌∙◌, arith}
use Rattle.std.proofs.lemmas.List.{take_rest}
use Rattle.std.proofs.lemmas.List.Sums.{prefix_len_is}
use Rattle.vs_rows.specs.Rows as spec
use Rattle.vs_rows.proofs.rows.behind_blanks.Goals as goal
use Rattle.vs_rows.proofs.rows.behind_blanks.Goals.{then-loop-start-test+else-is_blank, else-loop-start-test}

pub returns : goal.returns
returns c =
    let xs = c.args.text.now in
    take_rest xs c.loop-start.start
    ∙ ap (λ k. drop k xs)
    (sym
    (prefix_len_is spec.is_blank xs c.loop-start.start 0 c.loop-start.invariant.within c.loop-start.invariant.blank
    (λ h. elim c.loop-start-test.branch [
      | then-loop-start-test+else-is_blank w ↦ sym w.is_blank.ensures ∙ w.if-is_blank.false
      | else-loop-start-test w ↦ absurd (omega (arith, h, w.loop-start-test.false))
    ])))

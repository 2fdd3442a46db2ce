use Rattle.std.proofs.Common.{ℕ, List, length, filter, sym, ap, ◌∙◌, arith}
use Rattle.std.specs.List.{range_with_len}
use Rattle.std.proofs.lemmas.List.{take_all}
use Rattle.std.proofs.lemmas.List.FromFn.{length-range_with_len}
use Rattle.vs_rows.specs.Fields as spec
use Rattle.vs_rows.proofs.Starts.{one_more, none_more}
use Rattle.vs_rows.proofs.fields.starts.Goals as goal
use Rattle.vs_rows.proofs.fields.starts.Goals.{then-field_begins+in_ok-push, else-field_begins}

pub loop-at-preserved : goal.loop-at-preserved
loop-at-preserved c =
    let line = c.args.line.now in
    let at = c.loop-at.at in
    let p = spec.field_begins line in
    elim c.if-field_begins.branch [
      | then-field_begins+in_ok-push w ↦
          ap (λ v. v.items) w.starts-is ∙ w.in_ok-push.ensures.items
          ∙ one_more p (length line) at c.loop-at.starts.items c.loop-at-test.true c.loop-at.invariant (sym c.field_begins.ensures ∙ w.if-field_begins.true)
      | else-field_begins w ↦
          ap (λ v. v.items) w.starts-is
          ∙ none_more p (length line) at c.loop-at.starts.items c.loop-at-test.true c.loop-at.invariant (sym c.field_begins.ensures ∙ w.if-field_begins.false)
    ]

pub returns : goal.returns
returns c =
    let n = length c.args.line.now in
    c.loop-at.invariant
    ∙ ap (λ (xs : List ℕ). filter (spec.field_begins c.args.line.now) xs)
    (take_all c.loop-at.at (range_with_len 0 n) (omega (arith, length-range_with_len 0 n, c.loop-at-test.false)))

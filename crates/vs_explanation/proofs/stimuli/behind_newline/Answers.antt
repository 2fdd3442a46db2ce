use Rattle.std.proofs.Common.{◌≡◌, true, arith, rules, get_or}
use Rattle.vs_excerpt.specs.Positions.{is_newline}
use Rattle.vs_explanation.proofs.Newlines.{behind_first, behind_none}
use Rattle.vs_explanation.proofs.stimuli.behind_newline.Goals as goal

pub returns-then-text-end-eq10 : goal.returns-then-text-end-eq10
returns-then-text-end-eq10 c =
    let here : is_newline (get_or c.args.text.now c.loop-end.end 0) ≡ true = search (rules, c.if-text-end-eq10.true) in
    behind_first is_newline c.args.text.now c.loop-end.end c.loop-end-test.true c.loop-end.invariant.none here

pub returns : goal.returns
returns c = behind_none is_newline c.args.text.now (λ k h. c.loop-end.invariant.none k (omega (arith, h, c.loop-end-test.false)))

use Rattle.std.proofs.Common.{sym, ◌∙◌}
use Rattle.vs_bodies.proofs.Using.{case_uses, alone_uses, default_uses, hidden_uses, sequence_uses}
use Rattle.vs_bodies.proofs.integers.+statements.Goals as goal

pub uses-returns-then-uses_in_arms : goal.uses-returns-then-uses_in_arms
uses-returns-then-uses_in_arms t c =
    let w = c.in-Case in
    case_uses c.args.as_head c.args.name.now c.args.s.now w.place w.kind w.subject w.arms w.other c.deref-in-Case.result.now w.is c.deref-in-Case.ensures.value (sym c.uses_in_arms.ensures ∙ c.if-uses_in_arms.true)

pub uses-returns-in-None-other : goal.uses-returns-in-None-other
uses-returns-in-None-other t c =
    let w = c.in-Case in
    alone_uses c.args.as_head c.args.name.now c.args.s.now w.place w.kind w.subject w.arms w.other c.deref-in-Case.result.now w.is c.in-None-other.is c.deref-in-Case.ensures.value (sym c.uses_in_arms.ensures ∙ c.if-uses_in_arms.false)

pub uses-returns-in-Some-other : goal.uses-returns-in-Some-other
uses-returns-in-Some-other t c =
    let w = c.in-Case in
    default_uses c.args.as_head c.args.name.now c.args.s.now w.place w.kind w.subject w.arms c.in-Some-other.other w.other c.deref-in-Case.result.now c.deref-in-Some-other.result.now c.uses-in-Some-other.result
    w.is c.in-Some-other.is c.deref-in-Case.ensures.value c.deref-in-Some-other.ensures (sym c.uses_in_arms.ensures ∙ c.if-uses_in_arms.false) c.uses-in-Some-other.ensures

pub uses-returns-then-hides : goal.uses-returns-then-hides
uses-returns-then-hides t c =
    let w = c.in-Sequence in
    hidden_uses c.args.as_head c.args.name.now c.args.s.now w.place w.scope w.parts w.is (sym c.hides.ensures ∙ c.if-hides.true)

pub uses-returns-else-hides : goal.uses-returns-else-hides
uses-returns-else-hides t c =
    let w = c.in-Sequence in
    sequence_uses c.args.as_head c.args.name.now c.args.s.now w.place w.scope w.parts c.deref-in-Sequence.result.now c.uses_in_sequence.result w.is c.deref-in-Sequence.ensures.value (sym c.hides.ensures ∙ c.if-hides.false) c.uses_in_sequence.ensures

use Rattle.std.proofs.Common.{arith}
use Rattle.vs_lexer.proofs.Quotes.{seen_none, seen_plain, last_quote, none_line, none_escape, seen_escape, none_past}
use Rattle.vs_lexer.proofs.strings.closing_quote.Goals as goal
use Rattle.vs_lexer.proofs.strings.closing_quote.Goals.{else-at-text-via-then-at-text+else-text-at-ne10, else-at-text-via-else-at-text}

pub loop-at-init : goal.loop-at-init
loop-at-init c = record { inside = omega arith; seen = seen_none c.args.text.now }

pub returns-then-byte-eq34-clause-last : goal.returns-then-byte-eq34-clause-last
returns-then-byte-eq34-clause-last c = last_quote c.args.text.now c.loop-at.at c.loop-at-test.true c.loop-at.invariant.seen c.if-byte-eq34.true

pub returns-then-byte-eq10-clause-missing : goal.returns-then-byte-eq10-clause-missing
returns-then-byte-eq10-clause-missing c = none_line c.args.text.now c.loop-at.at c.loop-at-test.true c.loop-at.invariant.seen c.if-byte-eq10.true

pub loop-at-preserved-then-byte-ne92 : goal.loop-at-preserved-then-byte-ne92
loop-at-preserved-then-byte-ne92 c = record {
  inside = omega arith;
  seen = seen_plain c.args.text.now c.loop-at.at c.loop-at-test.true c.loop-at.invariant.seen c.if-byte-eq34.false c.if-byte-eq10.false c.if-byte-ne92.true;
}

pub loop-at-preserved : goal.loop-at-preserved
loop-at-preserved c = record {
  inside = omega arith;
  seen = seen_escape c.args.text.now c.loop-at.at c.loop-at-test.true c.loop-at.invariant.seen c.if-byte-ne92.false c.if-at-text.true c.if-text-at-ne10.true;
}

pub returns-else-at-text-clause-missing : goal.returns-else-at-text-clause-missing
returns-else-at-text-clause-missing c = none_escape c.args.text.now c.loop-at.at c.loop-at-test.true c.loop-at.invariant.seen c.if-byte-ne92.false (elim c.else-at-text.branch [
  | else-at-text-via-then-at-text+else-text-at-ne10 w ↦ λ _. w.if-text-at-ne10.false
  | else-at-text-via-else-at-text w ↦ λ h. absurd (omega arith)
])

pub returns-clause-missing : goal.returns-clause-missing
returns-clause-missing c = none_past c.args.text.now c.loop-at.at c.loop-at-test.false c.loop-at.invariant.seen

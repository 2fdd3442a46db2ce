use Rattle.std.proofs.Common.{sym, ◌∙◌, arith, below_more}
use Rattle.vs_parser.proofs.Ends.{none_out}
use Rattle.vs_parser.proofs.whole.first_left_out.Goals as goal

pub returns-then-is_left_out : goal.returns-then-is_left_out
returns-then-is_left_out c = record { out = sym c.is_left_out.ensures ∙ c.if-is_left_out.true; first = c.loop-n.invariant }

pub loop-n-preserved : goal.loop-n-preserved
loop-n-preserved c = below_more _ _ c.loop-n.invariant (sym c.is_left_out.ensures ∙ c.if-is_left_out.false)

pub returns : goal.returns
returns c = none_out c.args.tokens.now (λ k h. c.loop-n.invariant k (omega arith))

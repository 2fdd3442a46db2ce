use Rattle.std.proofs.Common.{sym, ◌∙◌, ap}
use Rattle.vs_lexer.proofs.Progress.{shifted, close_none}
use Rattle.vs_lexer.proofs.lexer.block_comment.Goals as goal

pub returns-clause-value : goal.returns-clause-value
returns-clause-value c = sym (ap (shifted c.loop-at.at) (close_none c.args.text.now c.loop-at.at c.loop-at-test.false)) ∙ c.loop-at.invariant

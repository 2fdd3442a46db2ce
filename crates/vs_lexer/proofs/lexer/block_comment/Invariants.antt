use Rattle.std.proofs.Common.{◌≡◌, ◌-◌, length, drop}
use Rattle.vs_lexer.specs.Cuts.{to_close, block_comment}
use Rattle.vs_lexer.proofs.Progress.{shifted}
use Rattle.vs_lexer.proofs.lexer.block_comment.Given as goal

abbrev pub invariant-loop-at : goal.invariant-loop-at
invariant-loop-at l = shifted l.at (to_close (drop l.at l.text)) ≡ block_comment l.text

abbrev pub decreases-loop-at : goal.decreases-loop-at
decreases-loop-at l = length l.text - l.at

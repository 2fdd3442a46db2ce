use Rattle.std.proofs.Common.{◌≤◌, ◌-◌, length}
use Rattle.vs_lexer.proofs.Progress.{Progress}
use Rattle.vs_lexer.proofs.lexer.lex.Given as goal

abbrev pub invariant-loop-at : goal.invariant-loop-at
invariant-loop-at l = record { inside : l.at ≤ length l.text; few : length l.tokens.items ≤ 1048576; progress : Progress l.text l.tokens.items l.at }

abbrev pub decreases-loop-at : goal.decreases-loop-at
decreases-loop-at l = length l.text - l.at

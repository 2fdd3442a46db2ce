use Rattle.std.proofs.Common.{◌≤◌, ◌-◌, length}
use Rattle.vs_lexer.proofs.Quotes.{Seen}
use Rattle.vs_lexer.proofs.strings.closing_quote.Given as goal

abbrev pub invariant-loop-at : goal.invariant-loop-at
invariant-loop-at l = record { inside : l.at ≤ length l.text; seen : Seen l.text l.at }

abbrev pub decreases-loop-at : goal.decreases-loop-at
decreases-loop-at l = length l.text - l.at

use Rattle.std.proofs.Common.{◌≡◌, ◌≤◌, length}
use Rattle.vs_lexer.specs.Tokens.{longest_within}
use Rattle.vs_lexer.proofs.scan.sign.Given as goal

abbrev pub invariant-loop-length : goal.invariant-loop-length
invariant-loop-length l = record { inside : l.length ≤ length l.text; same : longest_within l.text l.length ≡ longest_within l.text (length l.text) }

abbrev pub decreases-loop-length : goal.decreases-loop-length
decreases-loop-length l = l.length

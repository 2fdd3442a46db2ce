use Rattle.std.proofs.Common.{◌≤◌, ◌<◌, ◌-◌, ◌*◌, ◌^◌, length}
use Rattle.vs_lexer.proofs.StringFacts.{Read}
use Rattle.vs_lexer.proofs.strings.number_within.Given as goal

abbrev pub invariant-loop-at : goal.invariant-loop-at
invariant-loop-at l = record { inside : l.at ≤ length l.text; few : l.number.characters ≤ 8; small : l.number.value < 2 ^ (8 * l.number.characters); read : Read l.text l.at l.number.characters l.number.value }

abbrev pub decreases-loop-at : goal.decreases-loop-at
decreases-loop-at l = length l.text - l.at

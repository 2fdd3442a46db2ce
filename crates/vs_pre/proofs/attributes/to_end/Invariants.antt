use Rattle.std.proofs.Common.{◌≡◌, ◌-◌, length, drop}
use Rattle.vs_pre.specs.Attributes.{to_end}
use Rattle.vs_pre.proofs.AttributeFacts.{shifted}
use Rattle.vs_pre.proofs.attributes.to_end.Given as goal

abbrev pub invariant-loop-at : goal.invariant-loop-at
invariant-loop-at l = shifted l.at (to_end (drop l.at l.tokens)) ≡ to_end l.tokens

abbrev pub decreases-loop-at : goal.decreases-loop-at
decreases-loop-at l = length l.tokens - l.at

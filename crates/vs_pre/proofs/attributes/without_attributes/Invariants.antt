use Rattle.std.proofs.Common.{◌≡◌, ◌≤◌, ◌-◌, ◌++◌, length, drop}
use Rattle.vs_pre.specs.Attributes.{outside, without_attributes}
use Rattle.vs_pre.proofs.attributes.without_attributes.Given as goal

abbrev pub invariant-loop-next : goal.invariant-loop-next
invariant-loop-next l = record { inside : l.next ≤ length l.tokens; same : l.kept.items ++ outside 0 (drop l.next l.tokens) ≡ without_attributes l.tokens }

abbrev pub decreases-loop-next : goal.decreases-loop-next
decreases-loop-next l = length l.tokens - l.next

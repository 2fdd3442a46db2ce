use Rattle.std.proofs.Common.{◌≡◌, ◌≤◌, ◌-◌, length, drop}
use Rattle.vs_pre.specs.Preprocessing.{behind, sized}
use Rattle.vs_pre.proofs.sizes.sized.Given as goal

abbrev pub invariant-loop-next : goal.invariant-loop-next
invariant-loop-next l = record { inside : l.next ≤ length l.tokens; same : behind l.out.items (sized l.text (drop l.next l.tokens)) ≡ sized l.text l.tokens }

abbrev pub decreases-loop-next : goal.decreases-loop-next
decreases-loop-next l = length l.tokens - l.next

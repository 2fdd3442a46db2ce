use Rattle.std.proofs.Common.{◌≡◌}
use Rattle.vs_elab.specs.Reading.{IsReading, outcome, work_left}
use Rattle.vs_elab.proofs.whole.read_pending.Given as goal

-- what comes out is the same after each part
abbrev pub invariant-loop-next : goal.invariant-loop-next
invariant-loop-next l = record {
  reading : IsReading l.text l.reading l.stack.items;
  same : outcome l.text l.reading l.stack.items ≡ outcome l.text l.fn.reading l.fn.stack.items;
}

-- less is left
abbrev pub decreases-loop-next : goal.decreases-loop-next
decreases-loop-next l = work_left l.text l.reading l.stack.items

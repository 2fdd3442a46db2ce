use Rattle.std.proofs.Common.{◌≡◌, ◌-◌, ◌≤◌, ◌++◌, length, take, drop}
use Rattle.vs_reread.specs.Again.{first_lines}
use Rattle.vs_reread.proofs.again.lines_len.Given as goal

abbrev pub invariant-loop-end : goal.invariant-loop-end
invariant-loop-end l = record {
  within : l.end ≤ length l.text;
  lines : take l.end l.text ++ first_lines l.left (drop l.end l.text) ≡ first_lines l.n l.text;
}

abbrev pub decreases-loop-end : goal.decreases-loop-end
decreases-loop-end l = length l.text - l.end

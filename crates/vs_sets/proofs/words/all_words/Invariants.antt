use Rattle.std.proofs.Common.{◌≡◌, ◌≤◌, ◌-◌, ◌*◌, length, drop}
use Rattle.vs_design.specs.Sets.{all_words}
use Rattle.vs_sets.proofs.words.all_words.Given as goal

-- the union of the words from this one on
abbrev pub invariant-loop-n : goal.invariant-loop-n
invariant-loop-n l = record {
  within : l.n ≤ l.count;
  long : length l.list ≡ l.len;
  rest : l.list ≡ all_words l.len (l.count - l.n) (drop (l.n * l.len) l.memory);
}

abbrev pub decreases-loop-n : goal.decreases-loop-n
decreases-loop-n l = l.n

use Rattle.std.proofs.Common.{◌≡◌, true}
use Rattle.vs_stim.specs.Header.{each_once}
use Rattle.vs_stim.proofs.heading.Heading.is_each_once.Given as goal

-- each input so far has one column
abbrev pub invariant-loop-count : goal.invariant-loop-count
invariant-loop-count l = each_once l.count-index l.self.columns.items ≡ true

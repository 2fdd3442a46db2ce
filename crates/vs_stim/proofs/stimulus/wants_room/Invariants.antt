use Rattle.std.proofs.Common.{◌≡◌, take}
use Rattle.vs_stim.specs.Wanted.{wanted_sizes}
use Rattle.vs_stim.specs.Wants.{expected_lengths}
use Rattle.vs_stim.proofs.stimulus.wants_room.Given as goal

abbrev pub invariant-loop-column : goal.invariant-loop-column
invariant-loop-column l = wanted_sizes l.values.items ≡ expected_lengths (take l.column-index l.column-items)

use Rattle.std.proofs.Common.{◌≡◌, take}
use Rattle.vs_stim.specs.Header.{lengths}
use Rattle.vs_stim.specs.Row.{sizes}
use Rattle.vs_stim.proofs.stimulus.room.Given as goal

abbrev pub invariant-loop-input : goal.invariant-loop-input
invariant-loop-input l = sizes l.values.items ≡ lengths (take l.input-index l.inputs)

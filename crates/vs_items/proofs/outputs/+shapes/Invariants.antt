use Rattle.std.proofs.Common.{◌≡◌, take}
use Rattle.std.specs.List.{list_all}
use Rattle.vs_items.proofs.OutputFaults.{is_output}
use Rattle.vs_items.proofs.outputs.+shapes.Given as goal

abbrev pub invariant-are_targets-loop-part : goal.invariant-are_targets-loop-part
invariant-are_targets-loop-part l = l.all ≡ list_all is_output (take l.part-index l.parts)

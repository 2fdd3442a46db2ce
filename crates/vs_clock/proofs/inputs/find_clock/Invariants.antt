use Rattle.std.proofs.Common.{◌≡◌, None, find, take}
use Rattle.vs_flat.specs.DesignOf.{arena_signals}
use Rattle.vs_clock.specs.Inputs.{is_named_input}
use Rattle.vs_clock.proofs.inputs.find_clock.Given as goal

abbrev pub invariant-loop-n : goal.invariant-loop-n
invariant-loop-n l = find (is_named_input l.name) (take l.n (arena_signals l.flat)) ≡ None

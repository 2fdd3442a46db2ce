use Rattle.std.proofs.Common.{◌≡◌, ◌++◌, option_map, take}
use Rattle.vs_flat.specs.DesignOf.{design_of}
use Rattle.vs_vcd.specs.Shared.{code_at}
use Rattle.vs_writes.specs.Held.{state_of}
use Rattle.vs_trace.specs.Lines.{slot_lines}
use Rattle.vs_trace.proofs.slots.push_signals.Given as goal

abbrev pub invariant-loop-number : goal.invariant-loop-number
invariant-loop-number l =
    l.text.items ≡ l.initial.text.items ++ slot_lines (code_at l.codes) (option_map (λ values. state_of values.now) l.before) (state_of l.now) (take l.number (design_of l.flat).signals)

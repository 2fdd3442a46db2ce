use Rattle.std.proofs.Common.{◌≡◌, ◌++◌, map, take}
use Rattle.vs_flat.specs.DesignOf.{design_of}
use Rattle.vs_vcd.specs.Shared.{code_at, led_by}
use Rattle.vs_vcd.specs.Texts.{slot_texts}
use Rattle.vs_writes.specs.Held.{state_of}
use Rattle.vs_trace.proofs.text.push_slots.Given as goal

abbrev pub invariant-loop-k : goal.invariant-loop-k
invariant-loop-k l = l.text.items ≡ l.initial.text.items ++ slot_texts (led_by (code_at l.codes) (design_of l.flat)) l.half (map state_of (take l.k l.ends))

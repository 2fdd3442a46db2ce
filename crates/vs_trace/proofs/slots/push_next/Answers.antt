use Rattle.std.proofs.Common.{List, ℕ, ◌++◌, ap, ◌∙◌}
use Rattle.vs_flat.specs.DesignOf.{design_of}
use Rattle.vs_vcd.specs.Shared.{code_at, led_by}
use Rattle.vs_vcd.specs.Texts.{changed_from, shown_numbers, time_line, value_lines, values_of}
use Rattle.vs_writes.specs.Held.{state_of}
use Rattle.vs_trace.proofs.SlotLines.{next_lines, on_ok, two_parts}
use Rattle.vs_trace.proofs.slots.push_next.Goals as goal

pub returns : goal.returns
returns c =
    let code = code_at c.args.codes.now in
    let d = design_of c.args.flat.now in
    let before = state_of c.args.before.now in
    let now = state_of c.args.now.now in
    let e = led_by code d in
    let lines : List ℕ = value_lines (shown_numbers e) (values_of e now) (changed_from 0 (values_of e before) (values_of e now)) in
    on_ok c.push_signals.result c.push_signals.ensures (λ added.
    two_parts c.args.text.now.items (time_line c.args.time) lines c.push_time.new.text.items c.push_signals.new.text.items c.in_ok-push_time.ensures
    (added ∙ ap (λ (t : List ℕ). c.push_time.new.text.items ++ t) (next_lines code d before now)))

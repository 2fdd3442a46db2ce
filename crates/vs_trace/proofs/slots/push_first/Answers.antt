use Rattle.std.proofs.Common.{List, ℕ, ◌++◌, ap, ◌∙◌}
use Rattle.std.specs.Prelude.{codes, length}
use Rattle.vs_design.specs.Values.{count_from}
use Rattle.vs_flat.specs.DesignOf.{design_of}
use Rattle.vs_vcd.specs.Shared.{code_at, led_by}
use Rattle.vs_vcd.specs.Texts.{shown_numbers, time_line, value_lines, values_of}
use Rattle.vs_vcd.specs.Values.{line}
use Rattle.vs_writes.specs.Held.{state_of}
use Rattle.vs_trace.proofs.SlotLines.{first_lines, four_parts, grown_ok}
use Rattle.vs_trace.proofs.slots.push_first.Goals as goal

pub returns : goal.returns
returns c =
    let code = code_at c.args.codes.now in
    let d = design_of c.args.flat.now in
    let now = state_of c.args.now.now in
    let values = values_of (led_by code d) now in
    let lines : List ℕ = value_lines (shown_numbers (led_by code d)) values (count_from 0 (length values)) in
    grown_ok c.extend_from_slice-2.result c.extend_from_slice-2.new.self.items (c.push_signals.new.text.items ++ c.end_line.result.now) c.push_signals.new.text.items c.extend_from_slice-2.ensures.items (λ closed.
    four_parts c.args.text.now.items (time_line 0) (line (codes "$dumpvars")) lines (line (codes "$end")) c.push_time.new.text.items c.extend_from_slice.new.self.items c.push_signals.new.text.items c.extend_from_slice-2.new.self.items
    c.in_ok-push_time.ensures
    (c.in_ok-extend_from_slice.ensures.items ∙ ap (λ (t : List ℕ). c.push_time.new.text.items ++ t) c.dump_line.ensures)
    (c.in_ok-push_signals.ensures ∙ ap (λ (t : List ℕ). c.extend_from_slice.new.self.items ++ t) (first_lines code d now))
    (closed ∙ ap (λ (t : List ℕ). c.push_signals.new.text.items ++ t) c.end_line.ensures))

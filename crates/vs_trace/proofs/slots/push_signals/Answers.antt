use Rattle.std.proofs.Common.{◌≤◌, ℕ, List, Bor, Option, Vec, Global, length, option_map, ap, ◌∙◌, sym}
use Rattle.std.specs.Prelude.{not, is_some, ◌&&◌, ◌==◌}
use Rattle.vs_four.specs.declared.Bit4.{Bit4}
use Rattle.vs_net.specs.Network.{State}
use Rattle.vs_design.specs.Designs.{bit_count}
use Rattle.vs_flat.specs.DesignOf.{design_of}
use Rattle.vs_flat.specs.Trees.{signal_of}
use Rattle.vs_vcd.specs.Shared.{code_at}
use Rattle.vs_vcd.proofs.Arenas.{signal-at}
use Rattle.vs_writes.specs.Held.{state_of}
use Rattle.vs_trace.specs.Lines.{IsShown, line_of, signal_line}
use Rattle.vs_trace.proofs.Shown.{if_some, plain_is, shown}
use Rattle.vs_trace.proofs.SlotLines.{line_added, line_is, no_line, none_added}
use Rattle.vs_trace.proofs.slots.push_signals.Goals.{then-has_lines+in_ok-push_signal, else-has_lines}
use Rattle.vs_trace.proofs.slots.push_signals.Goals as goal

pub push_signal-requires-clause-before : goal.push_signal-requires-clause-before
push_signal-requires-clause-before c =
    let a = c.args.flat.now in
    let s = c.signal-signal.result.now in
    let plain = plain_is s.words _ (sym c.has_lines.ensures ∙ c.if-has_lines.true) in
    if_some c.args.before (λ (v : Bor (List Bit4)). bit_count (design_of a) ≤ length v.now) (λ (v : Bor (List Bit4)). IsShown (length v.now) (signal_of 0 s))
    (λ v long. shown a c.loop-number.number s (length v.now) c.requires.lawful c.signal-signal.ensures plain long) c.requires.before

pub push_signal-requires-clause-now : goal.push_signal-requires-clause-now
push_signal-requires-clause-now c =
    let s = c.signal-signal.result.now in
    shown c.args.flat.now c.loop-number.number s (length c.args.now.now) c.requires.lawful c.signal-signal.ensures (plain_is s.words _ (sym c.has_lines.ensures ∙ c.if-has_lines.true)) c.requires.now

pub loop-number-preserved : goal.loop-number-preserved
loop-number-preserved c =
    let n = c.loop-number.number in
    let a = c.args.flat.now in
    let ss = (design_of a).signals in
    let s = signal_of n c.signal-signal.result.now in
    let code = code_at c.args.codes.now in
    let before : Option State = option_map (λ (v : Bor (List Bit4)). state_of v.now) c.args.before in
    let now = state_of c.args.now.now in
    let f = line_of code before now in
    let at = signal-at a n c.signal-signal.result.now c.signal-signal.ensures in
    let start = c.args.text.now.items in
    let text = c.loop-number.text.items in
    let tested = ap (λ (k : ℕ). not (is_some s.words) && (k == n)) c.code.ensures in
    elim c.if-has_lines.branch [
      | then-has_lines+in_ok-push_signal w ↦
          ap (λ (v : Vec ℕ Global). v.items) w.text-is ∙ w.in_ok-push_signal.ensures
          ∙ line_added f ss n s start text (signal_line before now s) at (line_is code before now s (sym tested ∙ sym c.has_lines.ensures ∙ w.if-has_lines.true)) c.loop-number.invariant
      | else-has_lines w ↦
          ap (λ (v : Vec ℕ Global). v.items) w.text-is
          ∙ none_added f ss n s start text at (no_line code before now s (sym tested ∙ sym c.has_lines.ensures ∙ w.if-has_lines.false)) c.loop-number.invariant
    ]

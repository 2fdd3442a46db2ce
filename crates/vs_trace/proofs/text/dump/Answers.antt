use Rattle.std.proofs.Common.{◌*◌, ◌++◌, ℕ, List, length, ap, ap₂, ◌∙◌, arith}
use Rattle.vs_flat.specs.DesignOf.{design_of}
use Rattle.vs_vcd.specs.Shared.{code_at, led_by}
use Rattle.vs_vcd.specs.Texts.{slot_texts, time_line}
use Rattle.std.specs.Prelude.{map}
use Rattle.vs_writes.specs.Held.{state_of}
use Rattle.vs_trace.proofs.Texts.{in_time, whole_text}
use Rattle.vs_trace.proofs.text.dump.Goals as goal

pub overflow_mul-time : goal.overflow_mul-time
overflow_mul-time c =
    let within = in_time (length c.args.ends.now) c.args.half c.requires.few c.requires.half in
    let count = ap (λ (n : ℕ). n * c.args.half) c.len.ensures in
    omega (arith, within, count)

pub returns : goal.returns
returns c =
    let d = design_of c.args.flat.now in
    let slots : List ℕ = slot_texts (led_by (code_at c.in_ok-codes.codes) d) c.args.half (map state_of c.args.ends.now) in
    whole_text c.share_law.ensures.parts c.args.share d c.args.half c.in_ok-codes.codes c.args.ends.now c.push_time.new.text.items c.in_ok-codes.ensures
    (c.in_ok-push_time.ensures
    ∙ ap₂ (λ (t : List ℕ) (n : ℕ). t ++ time_line (n * c.args.half)) (c.in_ok-push_slots.ensures ∙ ap (λ (t : List ℕ). t ++ slots) c.in_ok-text.ensures) c.len.ensures)

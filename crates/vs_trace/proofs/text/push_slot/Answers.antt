use Rattle.std.proofs.Common.{◌≡◌, ◌≤◌, ◌-◌, suc, List, length, arith}
use Rattle.vs_four.specs.declared.Bit4.{Bit4}
use Rattle.vs_design.specs.Designs.{bit_count}
use Rattle.vs_flat.specs.DesignOf.{design_of}
use Rattle.vs_vcd.specs.Shared.{code_at, led_by}
use Rattle.vs_trace.proofs.SlotLines.{on_ok}
use Rattle.vs_trace.proofs.Texts.{All-at, in_time, slot_first, slot_next}
use Rattle.vs_trace.proofs.text.push_slot.Goals as goal

pub push_first-requires-clause-now : goal.push_first-requires-clause-now
push_first-requires-clause-now c =
    All-at (λ (values : List Bit4). bit_count (design_of c.args.flat.now) ≤ length values) c.args.ends.now c.args.k c.slot-now.result.now c.slot-now.ensures c.requires.long

pub push_next-requires-clause-now : goal.push_next-requires-clause-now
push_next-requires-clause-now c =
    All-at (λ (values : List Bit4). bit_count (design_of c.args.flat.now) ≤ length values) c.args.ends.now c.args.k c.slot-now.result.now c.slot-now.ensures c.requires.long

pub push_next-requires-clause-before : goal.push_next-requires-clause-before
push_next-requires-clause-before c =
    All-at (λ (values : List Bit4). bit_count (design_of c.args.flat.now) ≤ length values) c.args.ends.now (c.args.k - 1) c.slot-before.result.now c.slot-before.ensures c.requires.long

pub overflow_mul-time : goal.overflow_mul-time
overflow_mul-time c =
    let within = in_time c.args.k c.args.half (omega (arith, c.requires.few, c.requires.there)) c.requires.half in
    omega (arith, within)

pub returns-then-k-eq0 : goal.returns-then-k-eq0
returns-then-k-eq0 c = λ start so_far.
    let d = led_by (code_at c.args.codes.now) (design_of c.args.flat.now) in
    on_ok c.push_first.result c.push_first.ensures (λ added.
    slot_first c.parts_law.ensures.first d c.args.half c.args.ends.now c.args.k c.slot-now.result.now c.if-k-eq0.true c.slot-now.ensures start c.args.text.now.items c.push_first.new.text.items so_far added)

pub returns : goal.returns
returns c = λ start so_far.
    let d = led_by (code_at c.args.codes.now) (design_of c.args.flat.now) in
    let next : c.args.k ≡ suc (c.args.k - 1) = omega (arith, c.if-k-eq0.false) in
    on_ok c.push_next.result c.push_next.ensures (λ added.
    slot_next c.parts_law.ensures.next d c.args.half c.args.ends.now c.args.k (c.args.k - 1) c.slot-before.result.now c.slot-now.result.now next c.slot-before.ensures c.slot-now.ensures start c.args.text.now.items c.push_next.new.text.items so_far added)

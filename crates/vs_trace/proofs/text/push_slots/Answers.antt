use Rattle.std.proofs.Common.{◌++◌, ℕ, List, map, take, ap, ◌∙◌, sym, append-nil, add-one, arith}
use Rattle.std.proofs.lemmas.List.{take_all}
use Rattle.vs_four.specs.declared.Bit4.{Bit4}
use Rattle.vs_flat.specs.DesignOf.{design_of}
use Rattle.vs_vcd.specs.Shared.{code_at, led_by}
use Rattle.vs_vcd.specs.Texts.{slot_texts}
use Rattle.vs_writes.specs.Held.{state_of}
use Rattle.vs_trace.proofs.text.push_slots.Goals as goal

pub loop-k-init : goal.loop-k-init
loop-k-init c = sym (append-nil c.args.text.now.items)

pub loop-k-preserved : goal.loop-k-preserved
loop-k-preserved c =
    let d = led_by (code_at c.args.codes.now) (design_of c.args.flat.now) in
    let start = c.args.text.now.items in
    c.in_ok-push_slot.ensures start c.loop-k.invariant
    ∙ ap (λ (n : ℕ). start ++ slot_texts d c.args.half (map state_of (take n c.args.ends.now))) (sym (add-one c.loop-k.k))

pub returns : goal.returns
returns c =
    let d = led_by (code_at c.args.codes.now) (design_of c.args.flat.now) in
    c.loop-k.invariant
    ∙ ap (λ (xs : List (List Bit4)). c.args.text.now.items ++ slot_texts d c.args.half (map state_of xs)) (take_all c.loop-k.k c.args.ends.now (omega (arith, c.loop-k-test.false, c.len-k-end.ensures)))

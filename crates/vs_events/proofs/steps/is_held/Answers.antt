use Rattle.std.proofs.Common.{◌≡◌, true, false, ap, ap₂, ◌∙◌, sym}
use Rattle.vs_four.specs.Tables.{same}
use Rattle.vs_four.specs.declared.Bit4.TheVariants.{X}
use Rattle.vs_writes.specs.Held.{state_of}
use Rattle.vs_writes.proofs.Writing.{found_write, written_from}
use Rattle.vs_events.proofs.Stepping.{one_held, all_held, any_default}
use Rattle.vs_events.proofs.steps.is_held.Goals as goal

pub value-now-requires : goal.value-now-requires
value-now-requires c =
    let w = c.item-item.result in
    c.requires c.bit.result (written_from c.args.writes.now c.loop-item.item-index c.bit.result (found_write c.args.writes.now c.loop-item.item-index c.bit.result w c.item-item.is c.loop-item-test.true c.bit.ensures))

pub returns-then-not-is_same : goal.returns-then-not-is_same
returns-then-not-is_same c =
    let w = c.item-item.result in
    let s = state_of c.args.events.now.values in
    let inside = c.requires c.bit.result (written_from c.args.writes.now c.loop-item.item-index c.bit.result (found_write c.args.writes.now c.loop-item.item-index c.bit.result w c.item-item.is c.loop-item-test.true c.bit.ensures)) in
    let now : c.value-now.result ≡ s w.bit = any_default c.args.events.now.values c.bit.result X c.value-now.result inside c.value-now.ensures ∙ ap s c.bit.ensures in
    let differs : same (s w.bit) w.value ≡ false = ap₂ same (sym now) (sym c.value.ensures) ∙ sym c.is_same.ensures ∙ c.if-not-is_same.true in
    sym (c.loop-item.invariant ∙ one_held s c.args.writes.now c.loop-item.item-index w false c.item-item.is c.loop-item-test.true differs)

pub loop-item-preserved : goal.loop-item-preserved
loop-item-preserved c =
    let w = c.item-item.result in
    let s = state_of c.args.events.now.values in
    let inside = c.requires c.bit.result (written_from c.args.writes.now c.loop-item.item-index c.bit.result (found_write c.args.writes.now c.loop-item.item-index c.bit.result w c.item-item.is c.loop-item-test.true c.bit.ensures)) in
    let now : c.value-now.result ≡ s w.bit = any_default c.args.events.now.values c.bit.result X c.value-now.result inside c.value-now.ensures ∙ ap s c.bit.ensures in
    let agrees : same (s w.bit) w.value ≡ true = ap₂ same (sym now) (sym c.value.ensures) ∙ sym c.is_same.ensures ∙ c.if-not-is_same.false in
    c.loop-item.invariant ∙ one_held s c.args.writes.now c.loop-item.item-index w true c.item-item.is c.loop-item-test.true agrees

pub returns : goal.returns
returns c = sym (c.loop-item.invariant ∙ all_held (state_of c.args.events.now.values) c.args.writes.now c.loop-item.item-index c.loop-item-test.false)

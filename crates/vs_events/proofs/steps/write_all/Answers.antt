use Rattle.std.proofs.Common.{◌<◌, [], length, get_or, ap, ◌∙◌, refl, arith}
use Rattle.vs_writes.proofs.Writing.{found_write, written_from}
use Rattle.vs_events.specs.Held.{Events}
use Rattle.vs_events.proofs.Stepping.{one_more_written, written_lengths}
use Rattle.vs_events.proofs.steps.write_all.Goals as goal

pub write-requires-clause-inside : goal.write-requires-clause-inside
write-requires-clause-inside c =
    let w = c.item-item.result in
    let written = written_from c.args.writes.now c.loop-item.item-index w.bit (found_write c.args.writes.now c.loop-item.item-index w.bit w c.item-item.is c.loop-item-test.true refl) in
    let below : w.bit < length c.args.events.now.values = c.requires.inside w.bit written in omega (arith, below, c.loop-item.invariant.values)

pub loop-item-preserved : goal.loop-item-preserved
loop-item-preserved c =
    let w = c.item-item.result in
    let lengths = written_lengths c.loop-item.events c.of_bit.result.now w in
    let heard = c.of_bit.ensures ∙ ap (λ b. get_or c.args.wiring.now b []) c.bit.ensures in
    record {
      written = one_more_written c.loop-item.events c.write.new.events _ c.args.wiring.now c.args.writes.now c.loop-item.item-index w c.of_bit.result.now c.item-item.is c.loop-item-test.true heard c.write.ensures c.loop-item.invariant.written;
      values = ap (λ (e : Events). length e.values) c.write.ensures ∙ lengths.0 ∙ c.loop-item.invariant.values;
      assigns = ap (λ (e : Events). length e.assigns) c.write.ensures ∙ lengths.1 ∙ c.loop-item.invariant.assigns;
    }

use Rattle.std.proofs.Common.{◌+◌, ◌-◌, ◌∙◌, refl, arith}
use Rattle.vs_vcd.proofs.Digits.{top_begins, top_on, stand_begins, stand_on_at, stand_ends}
use Rattle.vs_vcd.proofs.eights.put_known.Goals as goal

pub loop-place-init : goal.loop-place-init
loop-place-init c = record {
  end_is = refl;
  from = omega arith;
  long = refl;
  rest = top_begins c.args.count (c.args.at - c.args.at) c.args.number (omega arith);
  text = stand_begins c.args.at c.args.count c.args.number 0 (c.args.at - c.args.at) c.args.block.now (omega arith);
}

pub loop-place-preserved : goal.loop-place-preserved
loop-place-preserved c =
    let before = c.loop-place.invariant in
    let place = c.loop-place.place in
    record {
      end_is = refl;
      from = omega arith;
      long = c.put_eight.ensures.long ∙ before.long;
      rest = top_on 8 c.args.count (c.loop-place.place - c.args.at) (c.loop-place.place + 8 - c.args.at) c.args.number c.loop-place.rest (omega arith) c.requires.most before.rest;
      text = stand_on_at 8 c.args.at c.args.count place c.args.number 0 c.loop-place.rest 0 c.args.block.now c.loop-place.block c.put_eight.new.block before.from c.loop-place-test.true c.requires.most (omega arith) (omega arith) before.rest (λ some. omega arith) before.text c.put_eight.ensures.text;
    }

pub returns-clause-text : goal.returns-clause-text
returns-clause-text c = stand_ends c.args.at c.args.count (c.loop-place.place - c.args.at) c.args.number 0 c.args.block.now c.loop-place.block (omega arith) c.loop-place.invariant.text

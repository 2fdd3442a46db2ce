use Rattle.std.proofs.Common.{◌≡◌, ◌+◌, ◌-◌, ◌*◌, ◌/◌, ◌%◌, ◌^◌, ◌++◌, map, reverse, take, ◌∙◌, refl, ap, arith}
use Rattle.vs_four.specs.Planes.{bits_of_planes}
use Rattle.vs_vcd.specs.Values.{digit_code}
use Rattle.vs_vcd.proofs.Digits.{top_begins, top_on, stand_begins, stand_on_at, stand_ends}
use Rattle.vs_vcd.proofs.fours.put_digits.Goals as goal

pub loop-place-init : goal.loop-place-init
loop-place-init c = record {
  end_is = refl;
  from = omega arith;
  long = refl;
  values = top_begins c.args.count (c.args.at - c.args.at) c.args.value (omega arith);
  unknowns = top_begins c.args.count (c.args.at - c.args.at) c.args.unknown (omega arith);
  text = stand_begins c.args.at c.args.count c.args.value c.args.unknown (c.args.at - c.args.at) c.args.block.now (omega arith);
}

pub loop-place-preserved : goal.loop-place-preserved
loop-place-preserved c =
    let before = c.loop-place.invariant in
    let place = c.loop-place.place in
    let low : (c.loop-place.unknowns / 2 ^ 60 * 16 + c.loop-place.values / 2 ^ 60) % 16 ≡ c.loop-place.values / 2 ^ 60 = omega arith in
    let high : (c.loop-place.unknowns / 2 ^ 60 * 16 + c.loop-place.values / 2 ^ 60) / 16 ≡ c.loop-place.unknowns / 2 ^ 60 = omega arith in
    let written = c.put_four.ensures.text
    ∙ ap (λ v. take place c.loop-place.block ++ map digit_code (reverse (bits_of_planes 4 v ((c.loop-place.unknowns / 2 ^ 60 * 16 + c.loop-place.values / 2 ^ 60) / 16)))) low
    ∙ ap (λ u. take place c.loop-place.block ++ map digit_code (reverse (bits_of_planes 4 (c.loop-place.values / 2 ^ 60) u))) high in
    record {
      end_is = refl;
      from = omega arith;
      long = c.put_four.ensures.long ∙ before.long;
      values = top_on 4 c.args.count (c.loop-place.place - c.args.at) (c.loop-place.place + 4 - c.args.at) c.args.value c.loop-place.values (omega arith) c.requires.most before.values;
      unknowns = top_on 4 c.args.count (c.loop-place.place - c.args.at) (c.loop-place.place + 4 - c.args.at) c.args.unknown c.loop-place.unknowns (omega arith) c.requires.most before.unknowns;
      text = stand_on_at 4 c.args.at c.args.count place c.args.value c.args.unknown c.loop-place.values c.loop-place.unknowns c.args.block.now c.loop-place.block c.put_four.new.block before.from c.loop-place-test.true c.requires.most (omega arith) (omega arith) before.values before.unknowns before.text written;
    }

pub returns-clause-text : goal.returns-clause-text
returns-clause-text c = stand_ends c.args.at c.args.count (c.loop-place.place - c.args.at) c.args.value c.args.unknown c.args.block.now c.loop-place.block (omega arith) c.loop-place.invariant.text

use Rattle.std.proofs.Common.{◌+◌, ◌∷◌, [], length, ap, ◌∙◌, length-append, arith}
use Rattle.vs_vcd.proofs.NumeralLemmas.{identifier-room, pushed_more, pushed_last}
use Rattle.vs_vcd.proofs.line.Line.push_identifier.Goals as goal

pub push-requires : goal.push-requires
push-requires c = omega (arith, identifier-room c.loop-rest.self c.args.self.now c.loop-rest.rest c.args.number c.loop-rest.invariant.text c.ranges.number.fits)

pub loop-rest-preserved : goal.loop-rest-preserved
loop-rest-preserved c = record {
  text = pushed_more c.loop-rest.self c.push.new.self c.loop-rest.rest c.loop-rest-test.true c.push.ensures ∙ c.loop-rest.invariant.text;
  smaller = omega arith;
}

pub push-requires-2 : goal.push-requires-2
push-requires-2 c = omega (arith, identifier-room c.loop-rest.self c.args.self.now c.loop-rest.rest c.args.number c.loop-rest.invariant.text c.ranges.number.fits)

pub returns-clause-text : goal.returns-clause-text
returns-clause-text c = pushed_last c.loop-rest.self c.push-2.new.self c.loop-rest.rest c.loop-rest-test.false c.push-2.ensures ∙ c.loop-rest.invariant.text

pub returns-clause-short : goal.returns-clause-short
returns-clause-short c =
    omega (arith, identifier-room c.loop-rest.self c.args.self.now c.loop-rest.rest c.args.number c.loop-rest.invariant.text c.ranges.number.fits, length-append c.loop-rest.self ((33 + c.loop-rest.rest) ∷ []), ap length c.push-2.ensures)

use Rattle.std.proofs.Common.{◌+◌, ◌∷◌, ◌++◌, [], List, ap, ◌∙◌, arith}
use Rattle.vs_four.specs.declared.Bit4.{Bit4}
use Rattle.vs_flat.specs.DesignOf.{design_of}
use Rattle.vs_queue.proofs.Levelling.{all_gone, plain_solved}
use Rattle.vs_queue.proofs.Wholes.{whole_more}
use Rattle.vs_queue.proofs.plain.plain_run.Goals as goal

pub has_keeper-requires-clause-fits : goal.has_keeper-requires-clause-fits
has_keeper-requires-clause-fits c = c.requires.accepted.accepted.fit_initials

pub first_plain_period-requires-clause-machine : goal.first_plain_period-requires-clause-machine
first_plain_period-requires-clause-machine c = record { accepted = c.requires.accepted; wiring_is = c.in_ok-wiring.ensures; keeper_is = c.in_ok-keeper.ensures }

pub next_plain_period-requires-clause-machine : goal.next_plain_period-requires-clause-machine
next_plain_period-requires-clause-machine c = record { accepted = c.requires.accepted; wiring_is = c.in_ok-wiring.ensures; keeper_is = c.in_ok-keeper.ensures }

pub loop-k-preserved : goal.loop-k-preserved
loop-k-preserved c =
    let w = c.loop-k.invariant.whole in
    let l = c.loop-k-test.true in
    record {
      copied = c.in_ok-next_plain_period.ensures.copied;
      calm = c.in_ok-next_plain_period.ensures.calm;
      goes = c.in_ok-next_plain_period.ensures.goes c.loop-k.invariant.goes;
      whole = (w.0 + 2, (let e = w.1 in omega (arith, e)), c.in_ok-next_plain_period.ensures.whole w.0 w.2);
      within = omega (arith, l);
    }

pub returns : goal.returns
returns c =
    let d = design_of c.args.typed.now in
    let k = c.args.clocks.now in
    let o = c.args.order.now in
    let run = c.loop-k.run in
    let ends = c.in_ok-push.ensures ∙ ap (λ (vs : List Bit4). run.ends ++ vs ∷ []) c.values.ensures in
    let plain = all_gone d k.bits o c.args.vectors.now c.loop-k.k run.events run.ends c.push.new.self c.loop-k-test.false c.loop-k.invariant.goes ends in
    let w = c.loop-k.invariant.whole in
    let all = whole_more d k.bits w.0 run.ends c.push.new.self run.events.values w.2 c.loop-k.invariant.copied.running.inside.values ends in
    record {
      run = plain;
      solution = λ first later vs known resets. plain_solved c.first_law.ensures c.exists_law.ensures d k c.requires.accepted o c.requires.order first later c.push.new.self known resets (plain first later vs);
      slots = (let e = w.1 in let l = c.loop-k-test.false in let m = c.loop-k.invariant.within in let f = all.count in omega (arith, e, l, m, f));
      long = all.long;
    }

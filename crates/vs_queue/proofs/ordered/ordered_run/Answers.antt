use Rattle.std.proofs.Common.{◌+◌, ◌∷◌, ◌++◌, [], List, ap, ◌∙◌, arith}
use Rattle.vs_four.specs.declared.Bit4.{Bit4}
use Rattle.vs_flat.specs.DesignOf.{design_of}
use Rattle.vs_queue.proofs.Periods.{solved}
use Rattle.vs_queue.proofs.Vectors.{all_ordered}
use Rattle.vs_queue.proofs.Wholes.{whole_more}
use Rattle.vs_queue.proofs.ordered.ordered_run.Goals as goal

pub has_keeper-requires-clause-fits : goal.has_keeper-requires-clause-fits
has_keeper-requires-clause-fits c = c.requires.accepted.accepted.fit_initials

pub first_period-requires-clause-machine : goal.first_period-requires-clause-machine
first_period-requires-clause-machine c = record { accepted = c.requires.accepted; wiring_is = c.in_ok-wiring.ensures; keeper_is = c.in_ok-keeper.ensures }

pub next_period-requires-clause-machine : goal.next_period-requires-clause-machine
next_period-requires-clause-machine c = record { accepted = c.requires.accepted; wiring_is = c.in_ok-wiring.ensures; keeper_is = c.in_ok-keeper.ensures }

pub next_period-requires-clause-come : goal.next_period-requires-clause-come
next_period-requires-clause-come c = (c.args.order, c.loop-k.invariant.come)

pub loop-k-preserved : goal.loop-k-preserved
loop-k-preserved c =
    let w = c.loop-k.invariant.whole in
    let l = c.loop-k-test.true in
    record {
      copied = c.in_ok-next_period.ensures.copied;
      ended = c.in_ok-next_period.ensures.ended;
      come = c.in_ok-next_period.ensures.come c.args.order c.loop-k.invariant.come;
      whole = (w.0 + 2, (let e = w.1 in omega (arith, e)), c.in_ok-next_period.ensures.whole w.0 w.2);
      within = omega (arith, l);
    }

pub returns : goal.returns
returns c =
    let d = design_of c.args.typed.now in
    let k = c.args.clocks.now in
    let run = c.loop-k.run in
    let ends = c.in_ok-push.ensures ∙ ap (λ (vs : List Bit4). run.ends ++ vs ∷ []) c.values.ensures in
    let whole = all_ordered d k.bits c.args.order c.args.vectors.now c.loop-k.k run.events run.seed run.ends c.push.new.self run.steps c.loop-k-test.false c.loop-k.invariant.come c.loop-k.invariant.ended ends in
    let w = c.loop-k.invariant.whole in
    let all = whole_more d k.bits w.0 run.ends c.push.new.self run.events.values w.2 c.loop-k.invariant.copied.running.inside.values ends in
    record {
      run = λ first later vs known resets. whole first later vs;
      solution = λ first later vs known resets.
          solved c.chosen_law.ensures c.first_law.ensures c.lawful_law.ensures.lawful c.order_law.ensures d k c.requires.accepted c.args.order first later c.push.new.self run.steps known resets (whole first later vs);
      slots = (let e = w.1 in let l = c.loop-k-test.false in let m = c.loop-k.invariant.within in let f = all.count in omega (arith, e, l, m, f));
      long = all.long;
    }

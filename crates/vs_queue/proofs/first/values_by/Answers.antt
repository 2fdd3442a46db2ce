use Rattle.std.proofs.Common.{◌+◌, List, sym, ap, ◌∙◌, subst, arith}
use Rattle.vs_four.specs.declared.Bit4.{Bit4}
use Rattle.vs_queue.specs.Ordered.{seed_after}
use Rattle.vs_queue.proofs.Firsts.{AreBegun, none_begun, one_begun, all_begun, flagged_to}
use Rattle.vs_queue.proofs.first.values_by.Goals as goal

pub loop-b-init : goal.loop-b-init
loop-b-init c = subst (λ (vs : List Bit4). AreBegun c.args.nets.now c.args.driven.now c.args.order 0 vs c.args.order) (sym c.new-values.ensures.items) (none_begun c.args.nets.now c.args.driven.now c.args.order)

pub loop-b-preserved : goal.loop-b-preserved
loop-b-preserved c =
    subst (λ (vs : List Bit4). AreBegun c.args.nets.now c.args.driven.now c.args.order (c.loop-b.b + 1) vs c.seed_behind-seed.result) (sym c.in_ok-push.ensures.items)
    (one_begun c.args.nets.now c.args.driven.now c.args.order c.loop-b.b c.loop-b.values.items c.loop-b.seed c.loop-b.invariant c.first_value.result c.seed_behind-seed.result c.first_value.ensures c.seed_behind-seed.ensures)

pub returns : goal.returns
returns c =
    let l = c.loop-b-test.false in
    let m = c.loop-b.auto.b-end in
    record {
      count = c.loop-b.invariant.count ∙ omega (arith, l, m);
      values = all_begun c.args.nets.now c.args.driven.now c.args.order c.loop-b.b c.loop-b.values.items c.loop-b.seed c.loop-b.invariant (omega (arith, l, m));
      seed = c.loop-b.invariant.seed_is ∙ ap (λ k. seed_after (flagged_to c.args.nets.now c.args.driven.now k) c.args.order) (omega (arith, l, m));
    }

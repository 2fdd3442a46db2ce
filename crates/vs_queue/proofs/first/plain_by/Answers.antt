use Rattle.std.proofs.Common.{◌+◌, ℕ, List, sym, ◌∙◌, subst, arith}
use Rattle.vs_four.specs.declared.Bit4.{Bit4}
use Rattle.vs_queue.proofs.Plainly.{ArePlain, none_plain, plain_more, all_plain}
use Rattle.vs_queue.proofs.first.plain_by.Goals as goal

pub loop-b-init : goal.loop-b-init
loop-b-init c = subst (λ (vs : List Bit4). ArePlain c.args.nets.now c.args.driven.now 0 vs) (sym c.new-values.ensures.items) (none_plain c.args.nets.now c.args.driven.now)

pub loop-b-preserved : goal.loop-b-preserved
loop-b-preserved c =
    subst (λ (vs : List Bit4). ArePlain c.args.nets.now c.args.driven.now (c.loop-b.b + 1) vs) (sym c.in_ok-push.ensures.items)
    (plain_more c.args.nets.now c.args.driven.now c.loop-b.b c.loop-b.values.items c.plain_value.result c.loop-b.invariant c.plain_value.ensures)

pub returns : goal.returns
returns c =
    let l = c.loop-b-test.false in
    let m = c.loop-b.auto.b-end in
    record {
      count = c.loop-b.invariant.count ∙ omega (arith, l, m);
      values = all_plain c.args.nets.now c.args.driven.now c.loop-b.values.items (subst (λ (k : ℕ). ArePlain c.args.nets.now c.args.driven.now k c.loop-b.values.items) (omega (arith, l, m)) c.loop-b.invariant);
    }

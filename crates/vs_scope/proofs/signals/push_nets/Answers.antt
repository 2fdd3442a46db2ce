use Rattle.std.proofs.Common.{◌≡◌, ◌++◌, ℕ, List, Option, map, sym, ap, ◌∙◌, arith}
use Rattle.vs_four.specs.declared.Range.{Range}
use Rattle.vs_four.specs.Selects.{range_length}
use Rattle.vs_design.specs.Expressions as design
use Rattle.vs_design.specs.Expressions.{range_or_zero}
use Rattle.vs_scope.specs.Signalled.{net}
use Rattle.vs_scope.proofs.ArrayNets.{nets_below, many_nets, net_more}
use Rattle.vs_scope.proofs.signals.push_nets.Goals as goal

pub loop-k-preserved : goal.loop-k-preserved
loop-k-preserved c =
    net_more (net c.args.s.now) c.args.nets.now.items c.loop-k.nets.items c.push.new.self.items c.in_ok-net-in-Some.net c.in-Some.words.right c.loop-k.k
    (ap (λ (o : Option Range). (range_or_zero o).right) (sym c.in-Some.is)) c.in_ok-net-in-Some.ensures c.in_ok-push-in-Some.ensures.items c.loop-k.invariant

pub returns-after-loop-k : goal.returns-after-loop-k
returns-after-loop-k c =
    let s = net c.args.s.now in
    let old = map net c.args.nets.now.items in
    let all : c.loop-k.k ≡ range_length c.in-Some.words = omega (arith, c.loop-k-test.false, c.loop-k.auto.k-end, c.length-k-end.ensures) in
    c.loop-k.invariant
    ∙ ap (λ (k : ℕ). old ++ nets_below s k) all
    ∙ ap (λ (r : List design.Signal). old ++ r) (sym (many_nets s c.in-Some.words c.if-s.true c.in-Some.is))

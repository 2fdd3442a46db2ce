use Rattle.std.proofs.Common.{◌≡◌, ℕ, ◌<◌, subst, length, get_or, true, arith, List}
use Rattle.vs_design.specs.Footprints.{contains}
use Rattle.vs_level.proofs.Steps.{sorted, root_there}
use Rattle.vs_level.proofs.search.sort.Goals as goal

pub mark-requires : goal.mark-requires
mark-requires c = root_there c.args.graph.now c.loop-root.search c.nodes-root-items.result.now c.loop-root.root-index c.requires c.loop-root.invariant.0 c.nodes-root-items.ensures c.loop-root-test.true

pub returns-clause-sorted : goal.returns-clause-sorted
returns-clause-sorted c =
    sorted c.args.graph.now c.loop-root.search c.into_order.result.items c.loop-root.invariant.0 c.loop-root.invariant.1
    (subst (λ (zs : List ℕ). (k : ℕ) → k < length zs → contains c.loop-root.search.placed (get_or zs k 0) ≡ true) c.nodes-root-items.ensures (λ k l. c.loop-root.invariant.2 k (omega (arith, l, c.loop-root-test.false))))
    c.into_order.ensures

use Rattle.std.proofs.Common.{ℕ, map, flat_map, drop, sym, subst, add-one}
use Rattle.vs_elaborated.specs.NamedBlocks as spec
use Rattle.vs_scope.specs.NamedBlocks.{named}
use Rattle.vs_scope.specs.SoFar.{IsFirstSoFar}
use Rattle.vs_scope.proofs.SoFar.{so_far_start, so_far_next, so_far_done}
use Rattle.vs_scope.proofs.block_scopes.within_fault.Goals as goal

pub loop-b-init : goal.loop-b-init
loop-b-init c = so_far_start (flat_map spec.clashes_within (map named c.args.blocks.now))

pub loop-b-preserved : goal.loop-b-preserved
loop-b-preserved c =
    let bs = c.args.blocks.now in
    let all = flat_map spec.clashes_within (map named bs) in
    subst (λ (n : ℕ). IsFirstSoFar c.first_of-fault.result (flat_map spec.clashes_within (map named (drop n bs))) all) (sym (add-one c.loop-b.b-index))
    (so_far_next spec.clashes_within named bs c.loop-b.b-index c.b-item.result all c.loop-b.fault c.in_ok-found.found c.first_of-fault.result c.loop-b-test.true c.b-item.is c.loop-b.invariant c.in_ok-found.ensures c.first_of-fault.ensures)

pub returns : goal.returns
returns c =
    let bs = c.args.blocks.now in
    so_far_done spec.clashes_within named bs c.loop-b.b-index (flat_map spec.clashes_within (map named bs)) c.loop-b.fault c.loop-b-test.false c.loop-b.invariant

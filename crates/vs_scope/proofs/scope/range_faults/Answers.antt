use Rattle.std.proofs.Common.{ℕ, map, drop, sym, subst, add-one}
use Rattle.vs_scope.specs.Frames.{view_env}
use Rattle.vs_scope.specs.Views.{declaration}
use Rattle.vs_scope.proofs.Evaluations.{shaped_at}
use Rattle.vs_scope.proofs.FirstFaults.{AreRanged, ranged_more}
use Rattle.vs_scope.proofs.scope.range_faults.Goals as goal

pub range_fault-requires : goal.range_fault-requires
range_fault-requires c = shaped_at c.args.declarations.now c.loop-d.d-index c.d-item.result c.requires c.loop-d-test.true c.d-item.is

pub loop-d-preserved : goal.loop-d-preserved
loop-d-preserved c =
    let ds = c.args.declarations.now in
    let env = view_env c.args.here.now in
    subst (λ (n : ℕ). AreRanged env (map declaration (drop n ds)) (map declaration ds) c.first_of-fault.result) (sym (add-one c.loop-d.d-index))
    (ranged_more env ds c.loop-d.d-index c.d-item.result (map declaration ds) c.loop-d.fault c.in_ok-found.found c.first_of-fault.result c.loop-d-test.true c.d-item.is c.loop-d.invariant c.in_ok-found.ensures c.first_of-fault.ensures)

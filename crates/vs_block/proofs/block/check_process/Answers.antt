use Rattle.std.proofs.Common.{◌≡◌, Some, subst}
use Rattle.std.specs.Prelude.{slice_get}
use Rattle.vs_flat.specs.Arena.{Arena}
use Rattle.vs_block.proofs.Blocks.{assign_kept, block_at}
use Rattle.vs_block.proofs.block.check_process.Goals as goal

pub check_block-requires-clause-block : goal.check_block-requires-clause-block
check_block-requires-clause-block c =
    block_at c.trees_law.ensures.processes c.names_law.ensures.processes c.fits_law.ensures.fits c.args.typed.now c.flat.ensures.lawful c.flat.ensures.fits c.args.p c.process-process.result.now c.in-Block.star c.in-Block.events c.as_slice.result.now
    c.in-Block.statement (subst (λ (a : Arena). slice_get a.processes c.args.p ≡ Some c.process-process.result.now) c.flat.ensures.same c.process-process.ensures) c.in-Block.is c.as_slice.ensures

pub returns-in-Assign-clause-kept : goal.returns-in-Assign-clause-kept
returns-in-Assign-clause-kept c =
    assign_kept c.trees_law.ensures.processes c.args.typed.now c.args.p c.process-process.result.now c.in-Assign.target c.in-Assign.expr c.in-Assign.port
    (subst (λ (a : Arena). slice_get a.processes c.args.p ≡ Some c.process-process.result.now) c.flat.ensures.same c.process-process.ensures) c.in-Assign.is

use Rattle.std.proofs.Common.{◌≡◌, Some, subst, arith}
use Rattle.std.specs.Prelude.{slice_get}
use Rattle.vs_flat.specs.Arena.{Arena}
use Rattle.vs_block.proofs.Blocks.{block_at}
use Rattle.vs_block.proofs.Looking.{assign_unmarked, unmarked}
use Rattle.vs_block.proofs.block.look_at.Goals as goal

pub mark-requires : goal.mark-requires
mark-requires c = omega (arith, c.requires.process, c.requires.sound.processes)

pub look_at_block-requires-clause-block : goal.look_at_block-requires-clause-block
look_at_block-requires-clause-block c =
    block_at c.trees_law.ensures.processes c.names_law.ensures.processes c.fits_law.ensures.fits c.args.typed.now c.flat.ensures.lawful c.flat.ensures.fits c.args.p c.process-process.result.now c.in-Block.star c.in-Block.events c.as_slice.result.now
    c.in-Block.statement (subst (λ (a : Arena). slice_get a.processes c.args.p ≡ Some c.process-process.result.now) c.flat.ensures.same c.process-process.ensures) c.in-Block.is c.as_slice.ensures

pub returns-in-Assign : goal.returns-in-Assign
returns-in-Assign c =
    unmarked c.args.typed.now c.args.cases.now c.mark.new.self c.args.p c.requires.sound c.requires.process c.mark.ensures
    (assign_unmarked c.trees_law.ensures.processes c.args.typed.now c.args.p c.process-process.result.now _ _ _
    (subst (λ (a : Arena). slice_get a.processes c.args.p ≡ Some c.process-process.result.now) c.flat.ensures.same c.process-process.ensures) c.in-Assign.is)

use Rattle.std.proofs.Common.{◌∙◌}
use Rattle.vs_sets.specs.Completing.{done}
use Rattle.vs_sets.proofs.Completing.{done_unmixed}
use Rattle.vs_sets.specs.Tables.{family_of}
use Rattle.vs_zero.proofs.Owning.{own}
use Rattle.vs_zero.proofs.Turning.{quiet_is, put_back_is}
use Rattle.vs_zero.proofs.turns.is_quiet.Goals as goal

pub returns-clause-quiet : goal.returns-clause-quiet
returns-clause-quiet c = c.are_only_x-quiet.ensures ∙ quiet_is c.args.bits.now (done c.args.defaults.now.complete c.args.shapes.now c.args.s) (family_of c.args.table.now) (family_of c.run_block.new.table) (own c.args.defaults.now.complete c.args.shapes.now c.args.s c.args.bits.now c.requires.block) c.in_ok-run_block.ensures

pub returns-clause-same : goal.returns-clause-same
returns-clause-same c =
    c.put_back.ensures (family_of c.args.table.now) (c.as_slice.ensures.value ∙ c.in_ok-before.ensures)
    ∙ put_back_is c.at_once_law.ensures c.args.bits.now (done c.args.defaults.now.complete c.args.shapes.now c.args.s) (family_of c.args.table.now) (family_of c.run_block.new.table) (own c.args.defaults.now.complete c.args.shapes.now c.args.s c.args.bits.now c.requires.block) (done_unmixed c.args.defaults.now.complete c.args.shapes.now c.args.s c.requires.block.unmixed) c.in_ok-run_block.ensures

use Rattle.vs_sets.specs.Completing.{done}
use Rattle.vs_sets.proofs.Completing.{done_unmixed}
use Rattle.vs_sets.specs.Tables.{family_of}
use Rattle.vs_zero.proofs.Owning.{own}
use Rattle.vs_zero.proofs.Turning.{awake_late, asleep_late}
use Rattle.vs_zero.proofs.turns.turn_late.Goals as goal

pub returns-then-asleep : goal.returns-then-asleep
returns-then-asleep c =
    asleep_late c.at_once_law.ensures c.args.bits.now (done c.args.defaults.now.complete c.args.shapes.now c.args.s) (family_of c.args.table.now) (family_of c.run_block.new.table) (family_of c.add_x.new.table) c.args.asleep (own c.args.defaults.now.complete c.args.shapes.now c.args.s c.args.bits.now c.requires.block) (done_unmixed c.args.defaults.now.complete c.args.shapes.now c.args.s c.requires.block.unmixed) c.if-asleep.true c.in_ok-run_block.ensures c.add_x.ensures

pub returns-else-asleep : goal.returns-else-asleep
returns-else-asleep c =
    awake_late c.at_once_law.ensures c.args.bits.now (done c.args.defaults.now.complete c.args.shapes.now c.args.s) (family_of c.args.table.now) (family_of c.run_block.new.table) c.args.asleep (own c.args.defaults.now.complete c.args.shapes.now c.args.s c.args.bits.now c.requires.block) (done_unmixed c.args.defaults.now.complete c.args.shapes.now c.args.s c.requires.block.unmixed) c.if-asleep.false c.in_ok-run_block.ensures

use Rattle.std.proofs.Common.{sym, ◌∙◌, ap}
use Rattle.vs_sets.specs.Completing.{done}
use Rattle.vs_sets.proofs.Completing.{done_unmixed}
use Rattle.vs_sets.specs.Branches.{replaced}
use Rattle.vs_sets.specs.Tables.{family_of}
use Rattle.vs_zero.proofs.Owning.{own}
use Rattle.vs_zero.proofs.Turning.{asleep_early, lenient_early, quiet_early, stirred_early}
use Rattle.vs_zero.proofs.turns.turn_early.Goals as goal

pub returns-then-asleep : goal.returns-then-asleep
returns-then-asleep c =
    asleep_early c.args.bits.now (done c.args.defaults.now.complete c.args.shapes.now c.args.s) (family_of c.args.table.now) (family_of c.fill.new.table) c.args.asleep c.args.lenient (own c.args.defaults.now.complete c.args.shapes.now c.args.s c.args.bits.now c.requires.block) c.if-asleep.true
    (c.fill.ensures ∙ ap (λ s. replaced c.args.bits.now (λ b. s) (family_of c.args.table.now)) c.only.ensures)

pub returns-then-lenient : goal.returns-then-lenient
returns-then-lenient c =
    lenient_early c.args.bits.now (done c.args.defaults.now.complete c.args.shapes.now c.args.s) (family_of c.args.table.now) (family_of c.fill-then-lenient.new.table) c.args.asleep c.args.lenient (own c.args.defaults.now.complete c.args.shapes.now c.args.s c.args.bits.now c.requires.block)
    c.if-asleep.false c.if-lenient.true (c.fill-then-lenient.ensures ∙ ap (λ s. replaced c.args.bits.now (λ b. s) (family_of c.args.table.now)) c.any_value.ensures)

pub returns-then-not-are_only_x : goal.returns-then-not-are_only_x
returns-then-not-are_only_x c =
    stirred_early c.at_once_law.ensures c.args.bits.now (done c.args.defaults.now.complete c.args.shapes.now c.args.s) (family_of c.args.table.now) (family_of c.run_block.new.table) (family_of c.add_x.new.table) c.args.asleep c.args.lenient (own c.args.defaults.now.complete c.args.shapes.now c.args.s c.args.bits.now c.requires.block) (done_unmixed c.args.defaults.now.complete c.args.shapes.now c.args.s c.requires.block.unmixed) c.if-asleep.false c.if-lenient.false c.in_ok-run_block.ensures
    (sym c.are_only_x.ensures ∙ c.if-not-are_only_x.true) c.add_x.ensures

pub returns-else-not-are_only_x : goal.returns-else-not-are_only_x
returns-else-not-are_only_x c =
    quiet_early c.at_once_law.ensures c.args.bits.now (done c.args.defaults.now.complete c.args.shapes.now c.args.s) (family_of c.args.table.now) (family_of c.run_block.new.table) c.args.asleep c.args.lenient (own c.args.defaults.now.complete c.args.shapes.now c.args.s c.args.bits.now c.requires.block) (done_unmixed c.args.defaults.now.complete c.args.shapes.now c.args.s c.requires.block.unmixed) c.if-asleep.false c.if-lenient.false c.in_ok-run_block.ensures
    (sym c.are_only_x.ensures ∙ c.if-not-are_only_x.false)

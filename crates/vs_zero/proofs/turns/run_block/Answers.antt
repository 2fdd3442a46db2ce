use Rattle.std.proofs.Common.{Result, Ok, Err, ap, ◌∙◌}
use Rattle.std.specs.Prelude.{OnOk}
use Rattle.vs_sets.specs.Completing.{done}
use Rattle.vs_sets.proofs.Completing.{done_unmixed}
use Rattle.vs_sets.specs.Branches.{replaced}
use Rattle.vs_sets.specs.Tables.{family_of}
use Rattle.vs_zero.proofs.Turning.{ran}
use Rattle.vs_zero.proofs.Owning.{own}
use Rattle.vs_zero.proofs.turns.run_block.Goals as goal

on_ok : {V W : Type 0} {P Q : Type 0} (r : Result V W) → OnOk r P → (P → Q) → OnOk r Q
on_ok (Ok v) h k = k h
on_ok (Err e) h k = h

pub returns : goal.returns
returns c = on_ok c.run.result c.run.ensures (λ e. ran c.at_once_law.ensures c.args.bits.now (done c.args.defaults.now.complete c.args.shapes.now c.args.s) (family_of c.args.table.now) (family_of c.fill.new.table) (family_of c.run.new.table) (own c.args.defaults.now.complete c.args.shapes.now c.args.s c.args.bits.now c.requires.block) (done_unmixed c.args.defaults.now.complete c.args.shapes.now c.args.s c.requires.block.unmixed) (c.fill.ensures ∙ ap (λ s. replaced c.args.bits.now (λ b. s) (family_of c.args.table.now)) c.any_value.ensures) e)

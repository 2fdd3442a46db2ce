use Rattle.std.proofs.Common.{false, refl, ◌∙◌}
use Rattle.vs_block.proofs.Looking.{differ, keeps_some}
use Rattle.vs_block.proofs.block.may_keep.Goals as goal

pub first_latch-requires-clause-defaults : goal.first_latch-requires-clause-defaults
first_latch-requires-clause-defaults c = λ h. absurd (differ false h refl)

pub returns : goal.returns
returns c = c.is_some.ensures ∙ keeps_some c.args.shapes.now _ c.args.statement c.in_ok-latch.latch refl c.in_ok-latch.ensures

use Rattle.std.proofs.Common.{length, ap, ◌∙◌}
use Rattle.vs_typed.proofs.Distinct.{ascended_count}
use Rattle.vs_typed.proofs.written.distinct.Goals as goal

pub returns : goal.returns
returns c = ap length c.as_slice-rising.ensures.value ∙ ascended_count c.args.bits.items c.ascend.new.bits.items c.ascend.ensures.is

use Rattle.std.proofs.Common.{length, ap, ◌∙◌}
use Rattle.vs_base.proofs.Lengths.{select_length}
use Rattle.vs_base.proofs.values.selected.Goals as goal

pub returns-clause-length : goal.returns-clause-length
returns-clause-length c = ap length c.part.ensures ∙ select_length (record { range = c.args.range; up = c.args.up; width = c.args.width }) c.args.signed c.args.a c.args.base

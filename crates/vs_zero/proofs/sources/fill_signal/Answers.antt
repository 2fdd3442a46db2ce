use Rattle.std.proofs.Common.{ap₂, ◌∙◌}
use Rattle.vs_design.specs.Values.{count_from}
use Rattle.vs_sets.specs.Branches.{replaced}
use Rattle.vs_sets.specs.Tables.{family_of}
use Rattle.vs_zero.proofs.sources.fill_signal.Goals as goal

pub returns : goal.returns
returns c = c.fill_run.ensures ∙ ap₂ (λ first n. replaced (count_from first n) (λ b. c.args.set) (family_of c.args.table.now)) c.span_of-span.ensures.first c.span_of-span.ensures.len

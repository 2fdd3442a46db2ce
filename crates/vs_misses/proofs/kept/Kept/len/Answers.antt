use Rattle.std.proofs.Common.{length, sym, ap, ◌∙◌}
use Rattle.vs_misses.proofs.Words.{marked_long}
use Rattle.vs_misses.proofs.kept.Kept.len.Goals as goal

pub returns-clause-count : goal.returns-clause-count
returns-clause-count c = c.len.ensures.length ∙ sym (marked_long c.self.inside.bits c.self.inside.any) ∙ ap (λ ds. length ds) c.self.view_is

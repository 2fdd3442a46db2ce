use Rattle.vs_scope.proofs.CaseLabels.{labels_together}
use Rattle.vs_scope.proofs.cases.together.Goals as goal

pub returns : goal.returns
returns c = λ ls ms h k. labels_together c.args.a c.args.b _ ls ms h k c.both.ensures c.larger.ensures c.both-2.ensures c.first_of.ensures c.first_of-2.ensures

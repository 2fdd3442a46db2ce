use Rattle.vs_scope.proofs.SameBits.{one_same, other_same}
use Rattle.vs_scope.proofs.cases.are_same.Goals as goal

pub returns-in-One : goal.returns-in-One
returns-in-One c = one_same c.args.a c.args.b c.same.result c.requires c.same.ensures c.in-One.is

pub returns-in_default : goal.returns-in_default
returns-in_default c = other_same c.args.a c.args.b c.same.result c.requires c.same.ensures c.in_default.not-One

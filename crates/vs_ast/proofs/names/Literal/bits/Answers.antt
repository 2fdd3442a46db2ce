use Rattle.std.proofs.Common.{◌≤◌, subst}
use Rattle.vs_four.specs.PlanesBack.{length-planes}
use Rattle.vs_ast.proofs.names.Literal.bits.Goals as goal

pub of_planes-requires-clause-some : goal.of_planes-requires-clause-some
of_planes-requires-clause-some c = subst (λ k. 1 ≤ k) (length-planes c.args.self.now.size c.args.self.now.value c.args.self.now.unknown) c.requires.some

pub of_planes-requires-clause-at_most_64 : goal.of_planes-requires-clause-at_most_64
of_planes-requires-clause-at_most_64 c = subst (λ k. k ≤ 64) (length-planes c.args.self.now.size c.args.self.now.value c.args.self.now.unknown) c.requires.most

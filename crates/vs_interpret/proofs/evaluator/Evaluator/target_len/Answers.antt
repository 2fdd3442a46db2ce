use Rattle.std.proofs.Common.{ap, sym, subst, arith}
use Rattle.vs_sets.specs.FitParts.{Is64}
use Rattle.vs_sets.specs.Nodes.{tree_of}
use Rattle.vs_sets.proofs.TargetFacts.{target_few}
use Rattle.vs_shape.specs.declared.shape.Shape.{Shape}
use Rattle.vs_interpret.proofs.evaluator.Evaluator.target_len.Goals as goal

pub returns-clause-value : goal.returns-clause-value
returns-clause-value c = let few = target_few (tree_of c.args.self.now.shapes.now c.args.e) c.requires.target in omega (arith, few.1, c.from.ensures, ap (λ (s : Shape). s.width) c.shape.ensures)

pub returns-clause-few : goal.returns-clause-few
returns-clause-few c = subst Is64 (sym (returns-clause-value c)) (target_few (tree_of c.args.self.now.shapes.now c.args.e) c.requires.target)

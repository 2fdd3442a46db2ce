use Rattle.std.proofs.Common.{List, [], ap, subst}
use Rattle.vs_grammar.specs.Trees as tree
use Rattle.vs_grammar.specs.Shapes.{Each}
use Rattle.vs_scope.specs.Chosen.{IsConstruct, IsMaking}
use Rattle.vs_scope.specs.Contents.{block_items}
use Rattle.vs_scope.specs.Frames.{view_env}
use Rattle.vs_scope.proofs.constructs.Making.make_block.Goals as goal

pub make-requires-clause-shaped : goal.make-requires-clause-shaped
make-requires-clause-shaped c = (subst (Each IsConstruct) (ap block_items c.in-One.is) c.requires.shaped).0

pub returns-in_ok-make-in-One : goal.returns-in_ok-make-in-One
returns-in_ok-make-in-One c = λ before all h.
    c.in_ok-make-in-One.ensures before [] all (subst (λ (is : List tree.Item). IsMaking c.args.self.now (view_env c.args.here.now) before is all) (ap block_items c.in-One.is) h)

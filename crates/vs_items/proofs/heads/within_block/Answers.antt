use Rattle.std.proofs.Common.{rules}
use Rattle.vs_bodies.specs.declared.layers.Layers.{the_lemmas}
use Rattle.vs_items.proofs.HeadSteps.{declared_within}
use Rattle.vs_items.proofs.heads.within_block.Goals as goal

pub returns : goal.returns
returns c = λ own around l a. record { each = λ name. let e = declared_within c.args.locals.now c.args.outer.now own around name l a in search (rules, the_lemmas, e) }

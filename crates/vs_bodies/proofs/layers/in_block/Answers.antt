use Rattle.std.proofs.Common.{rules}
use Rattle.vs_bodies.specs.Layers.{within}
use Rattle.vs_bodies.specs.declared.layers.Layers.{the_lemmas}
use Rattle.vs_bodies.proofs.Naming.{block_names}
use Rattle.vs_bodies.proofs.layers.in_block.Goals as goal

pub returns : goal.returns
returns c = λ declared find vs a. let e = block_names declared c.args.locals.now vs (within declared c.args.outer.now find) a in search (rules, the_lemmas, e)

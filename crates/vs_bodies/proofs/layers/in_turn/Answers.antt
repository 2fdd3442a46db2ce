use Rattle.std.proofs.Common.{rules}
use Rattle.vs_bodies.specs.declared.layers.Layers.{the_lemmas}
use Rattle.vs_bodies.proofs.layers.in_turn.Goals as goal

pub returns : goal.returns
returns c = λ declared find. search (rules, the_lemmas)

use Rattle.vs_bodies.proofs.layers.barred_integer.Goals as goal

pub returns-clause-plain : goal.returns-clause-plain
returns-clause-plain c = λ f h. cc

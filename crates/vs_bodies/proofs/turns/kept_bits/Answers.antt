use Rattle.std.proofs.Common.{true, Option, subst}
use Rattle.vs_const.specs.declared.forms.Form.{Form}
use Rattle.vs_const.specs.Found.{AreValued, Keeps}
use Rattle.vs_bodies.proofs.Heads.{none_given, some_given}
use Rattle.vs_bodies.proofs.turns.kept_bits.Goals as goal

pub returns-in-None-clause-given : goal.returns-in-None-clause-given
returns-in-None-clause-given c = λ t k. none_given t (subst (λ (o : Option Form). Keeps true o t) c.in-None.is k)

pub assigned-requires-clause-valued : goal.assigned-requires-clause-valued
assigned-requires-clause-valued c = subst AreValued c.in-Some.is c.requires

pub returns-in-Some-clause-given : goal.returns-in-Some-clause-given
returns-in-Some-clause-given c = λ t k. some_given c.in-Some.f t c.assigned.result (subst (λ (o : Option Form). Keeps true o t) c.in-Some.is k) c.assigned.ensures.value

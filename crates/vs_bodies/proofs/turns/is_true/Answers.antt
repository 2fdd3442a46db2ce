use Rattle.std.proofs.Common.{true, Option, subst, ap, ◌∙◌}
use Rattle.vs_four.specs.Logic.{truth}
use Rattle.vs_four.specs.Tables.{is_one}
use Rattle.vs_const.specs.declared.forms.Form.{Form}
use Rattle.vs_const.specs.Found.{AreValued, Keeps}
use Rattle.vs_bodies.proofs.Heads.{none_ends, some_goes_on}
use Rattle.vs_bodies.proofs.turns.is_true.Goals as goal

pub returns-in-None : goal.returns-in-None
returns-in-None c = λ t k. none_ends t (subst (λ (o : Option Form). Keeps true o t) c.in-None.is k)

pub own-requires-clause-form : goal.own-requires-clause-form
own-requires-clause-form c = (subst AreValued c.in-Some.is c.requires).1

pub own-requires-clause-short : goal.own-requires-clause-short
own-requires-clause-short c = (subst AreValued c.in-Some.is c.requires).0

pub returns-in-Some : goal.returns-in-Some
returns-in-Some c = λ t k.
    some_goes_on c.in-Some.f t c.is_one.result (subst (λ (o : Option Form). Keeps true o t) c.in-Some.is k) (c.is_one.ensures ∙ ap is_one (c.truth.ensures ∙ ap truth c.own.ensures.value))

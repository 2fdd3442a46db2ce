use Rattle.std.proofs.Common.{◌++◌, [], ◌∷◌, is_some, inl, inr, refl, sym, ap, ◌∙◌, subst}
use Rattle.vs_maps.specs.MapViews.{pairs}
use Rattle.vs_maps.specs.Maps.{value_at}
use Rattle.vs_items.specs.Noted.{AreFirst, named}
use Rattle.vs_items.proofs.Firsts.{first_more, first_again, copied_some, copied_none}
use Rattle.vs_items.proofs.noted.note.Goals as goal

pub returns-then-is_some-clause-first : goal.returns-then-is_some-clause-first
returns-then-is_some-clause-first g c = λ all first.
    first_again (pairs c.args.map.now) all c.args.name.now c.args.value first
    (copied_some (λ x. x.now) c.get.result (value_at c.args.name.now (pairs c.args.map.now)) c.get.ensures.value (sym c.is_some.ensures ∙ c.if-is_some.true))

pub returns-clause-first : goal.returns-clause-first
returns-clause-first g c = λ all first.
    subst (λ ps. AreFirst ps (all ++ named c.args.name.now c.args.value ∷ [])) (sym c.in_ok-put.ensures.put)
    (first_more (pairs c.args.map.now) all c.args.name.now c.args.value first
    (copied_none (λ x. x.now) c.get.result (value_at c.args.name.now (pairs c.args.map.now)) c.get.ensures.value (sym c.is_some.ensures ∙ c.if-is_some.false)))

pub returns-then-is_some-clause-had : goal.returns-then-is_some-clause-had
returns-then-is_some-clause-had g c =
    sym (copied_some (λ x. x.now) c.get.result (value_at c.args.name.now (pairs c.args.map.now)) c.get.ensures.value (sym c.is_some.ensures ∙ c.if-is_some.true))

pub returns-clause-had : goal.returns-clause-had
returns-clause-had g c =
    sym (ap is_some (copied_none (λ x. x.now) c.get.result (value_at c.args.name.now (pairs c.args.map.now)) c.get.ensures.value (sym c.is_some.ensures ∙ c.if-is_some.false)))

pub returns-then-is_some-clause-may : goal.returns-then-is_some-clause-may
returns-then-is_some-clause-may g c = inl refl

pub returns-clause-may : goal.returns-clause-may
returns-clause-may g c = inr c.in_ok-put.ensures.put

use Rattle.std.proofs.Common.{ℕ, List, Some, refl, sym, ap, ◌∙◌}
use Rattle.vs_bodies.proofs.Declaring.{local_again, local_more}
use Rattle.vs_bodies.specs.Layers.{local_of}
use Rattle.vs_maps.specs.Maps.{value_at, with_value}
use Rattle.vs_maps.specs.MapViews.{pairs}
use Rattle.vs_scope.specs.Locals.{local}
use Rattle.vs_scope.proofs.ClashSteps.{copied_some, copied_none}
use Rattle.vs_scope.proofs.locals.add_place.Goals as goal

pub returns-then-is_some : goal.returns-then-is_some
returns-then-is_some c = λ before a.
    let v = local c.args.v.now in
    let ps = pairs c.args.places.now in
    let there = copied_some (λ x. x.now) c.get.result (value_at v.name.bytes ps) (c.get.ensures.value ∙ ap (λ (n : List ℕ). value_at n ps) c.as_slice-name.ensures) (sym c.is_some.ensures ∙ c.if-is_some.true) in
    local_again c.args.places.now before v (Some there.0) (sym there.1) refl a

pub returns : goal.returns
returns c = λ before a.
    let v = local c.args.v.now in
    let ps = pairs c.args.places.now in
    let out = copied_none (λ x. x.now) c.get.result (value_at v.name.bytes ps) (c.get.ensures.value ∙ ap (λ (n : List ℕ). value_at n ps) c.as_slice-name.ensures) (sym c.is_some.ensures ∙ c.if-is_some.false) in
    local_more c.args.places.now c.put.new.self before v (local_of v) out refl (c.in_ok-put.ensures.put ∙ ap (λ (n : List ℕ). with_value n (local_of v) ps) c.as_slice-name.ensures) a

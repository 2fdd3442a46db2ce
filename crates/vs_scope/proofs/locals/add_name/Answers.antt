use Rattle.std.proofs.Common.{ℕ, List, Some, None, refl, sym, ap, ◌∙◌}
use Rattle.vs_maps.specs.Maps.{value_at, with_value}
use Rattle.vs_maps.specs.MapViews.{pairs}
use Rattle.vs_bodies.proofs.Declaring.{known_fault, new_fault}
use Rattle.vs_scope.specs.Locals.{local}
use Rattle.vs_scope.proofs.ClashSteps.{copied_some, copied_none}
use Rattle.vs_scope.proofs.OwnNames.{is_known, place_again, place_more}
use Rattle.vs_scope.proofs.locals.add_name.Goals as goal

pub returns-then-is_some-clause-places : goal.returns-then-is_some-clause-places
returns-then-is_some-clause-places c = λ before a.
    let v = local c.args.v.now in
    let there = copied_some (λ x. x.now) c.get.result (value_at v.name.bytes (pairs c.args.places.now)) (c.get.ensures.value ∙ ap (λ (n : List ℕ). value_at n (pairs c.args.places.now)) c.as_slice-name.ensures) (sym c.is_some.ensures ∙ c.if-is_some.true) in
    place_again c.args.places.now before v (Some there.0) (sym there.1) refl a

pub returns-then-is_some-clause-fault : goal.returns-then-is_some-clause-fault
returns-then-is_some-clause-fault c = λ before a.
    let v = local c.args.v.now in
    let there = copied_some (λ x. x.now) c.get.result (value_at v.name.bytes (pairs c.args.places.now)) (c.get.ensures.value ∙ ap (λ (n : List ℕ). value_at n (pairs c.args.places.now)) c.as_slice-name.ensures) (sym c.is_some.ensures ∙ c.if-is_some.true) in
    known_fault before v c.fault_at.result (sym (is_known c.args.places.now before v.name.bytes (Some there.0) (sym there.1) a)) c.fault_at.ensures

pub returns-clause-places : goal.returns-clause-places
returns-clause-places c = λ before a.
    let v = local c.args.v.now in
    let out = copied_none (λ x. x.now) c.get.result (value_at v.name.bytes (pairs c.args.places.now)) (c.get.ensures.value ∙ ap (λ (n : List ℕ). value_at n (pairs c.args.places.now)) c.as_slice-name.ensures) (sym c.is_some.ensures ∙ c.if-is_some.false) in
    place_more c.args.places.now c.put.new.self before v out (c.in_ok-put.ensures.put ∙ ap (λ (n : List ℕ). with_value n v.name.place (pairs c.args.places.now)) c.as_slice-name.ensures) a

pub returns-clause-fault : goal.returns-clause-fault
returns-clause-fault c = λ before a.
    let v = local c.args.v.now in
    let out = copied_none (λ x. x.now) c.get.result (value_at v.name.bytes (pairs c.args.places.now)) (c.get.ensures.value ∙ ap (λ (n : List ℕ). value_at n (pairs c.args.places.now)) c.as_slice-name.ensures) (sym c.is_some.ensures ∙ c.if-is_some.false) in
    new_fault before v None (sym (is_known c.args.places.now before v.name.bytes None (sym out) a)) refl

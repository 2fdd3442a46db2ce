use Rattle.std.proofs.Common.{◌≡◌, ℕ, [], List, map, ap, ◌∙◌, subst}
use Rattle.std.specs.Result.{IfOk}
use Rattle.vs_maps.specs.Maps.{value_at}
use Rattle.vs_maps.specs.MapViews.{pairs}
use Rattle.vs_const.specs.Faults.{least}
use Rattle.vs_elaborated.specs.Statements as statements
use Rattle.vs_scope.specs.Locals.{local, place_of}
use Rattle.vs_scope.proofs.locals.names_of.Goals as goal

pub returns-clause-places : goal.returns-clause-places
returns-clause-places c =
    subst (λ (vs : List statements.Local). IfOk c.own_names.result (λ r. (name : List ℕ) → value_at name (pairs r.places) ≡ place_of vs name)) (ap (map local) c.as_slice.ensures.value ∙ c.in_ok-all.ensures) c.own_names.ensures.places

pub returns-clause-fault : goal.returns-clause-fault
returns-clause-fault c =
    subst (λ (vs : List statements.Local). IfOk c.own_names.result (λ r. r.fault ≡ least (statements.repeated_locals [] vs))) (ap (map local) c.as_slice.ensures.value ∙ c.in_ok-all.ensures) c.own_names.ensures.fault

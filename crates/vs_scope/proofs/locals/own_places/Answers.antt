use Rattle.std.proofs.Common.{List, map, ap, ◌∙◌, subst}
use Rattle.std.specs.Result.{IfOk}
use Rattle.vs_bodies.specs.Layers.{AreLocals}
use Rattle.vs_elaborated.specs.Statements as statements
use Rattle.vs_scope.specs.Locals.{local}
use Rattle.vs_scope.proofs.locals.own_places.Goals as goal

pub returns : goal.returns
returns c = subst (λ (vs : List statements.Local). IfOk c.places_of.result (λ m. AreLocals m vs)) (ap (map local) c.as_slice.ensures.value ∙ c.in_ok-all.ensures) c.places_of.ensures

use Rattle.std.proofs.Common.{◌≡◌, Option, None, MatchOption, sym, subst}
use Rattle.vs_elaborated.specs.Environments.{Entry}
use Rattle.vs_scope.specs.Seen.{Finds}
use Rattle.vs_scope.proofs.Viewing.{view_found, view_outside}
use Rattle.vs_scope.proofs.places.View.entry.Goals as goal

pub returns-in-Some : goal.returns-in-Some
returns-in-Some c = view_found c.args.self.now c.args.name.now c.in-Some.e.now (sym c.in-Some.ensures.value)

pub returns-in-None : goal.returns-in-None
returns-in-None c =
    let name = c.args.name.now in
    subst (λ (o : Option Entry). MatchOption c.entry.result (o ≡ None) (λ e. Finds o name e.now)) (sym (view_outside c.args.self.now name (sym c.in-None.ensures.value))) c.entry.ensures

use Rattle.std.proofs.Common.{ℕ, Option, sym, ap, ◌∙◌}
use Rattle.std.specs.Option.{option_copied}
use Rattle.vs_elaborated.specs.Environments.{named}
use Rattle.vs_scope.specs.Frames.{view_env}
use Rattle.vs_scope.specs.Locals.{local_at, outer_meaning, own_or}
use Rattle.vs_scope.proofs.InsideNames.{own_plain}
use Rattle.vs_scope.proofs.inside.Inside.signal_passed.Goals as goal

pub returns-in-None : goal.returns-in-None
returns-in-None c = λ f is.
    let i = c.args.self.now in
    let m = outer_meaning i (named (view_env i.here) c.args.name.now) in
    c.outer_passed.ensures f (sym (ap (λ (o : Option ℕ). own_or i.locals o m) (sym c.get.ensures.value ∙ ap option_copied c.in-None.is)) ∙ is)

pub returns-in-Some : goal.returns-in-Some
returns-in-Some c = λ f is.
    let i = c.args.self.now in
    let m = outer_meaning i (named (view_env i.here) c.args.name.now) in
    let place = c.in-Some.field-0.now in
    absurd (own_plain (local_at i.locals place) f (sym (ap (λ (o : Option ℕ). own_or i.locals o m) (sym c.get.ensures.value ∙ ap option_copied c.in-Some.is)) ∙ is))

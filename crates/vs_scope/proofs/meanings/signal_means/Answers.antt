use Rattle.std.proofs.Common.{Option, is_some, refl, ap}
use Rattle.vs_four.specs.declared.Range.{Range}
use Rattle.vs_elaborated.specs.Environments.{with_words}
use Rattle.vs_scope.specs.Views.{signal_meaning}
use Rattle.vs_scope.proofs.meanings.signal_means.Goals as goal

pub returns-in-None : goal.returns-in-None
returns-in-None c =
    let s = signal_meaning c.args.s.now in
    (s, ap (λ (w : Option Range). with_words w s) c.in-None.is, refl, refl, refl, refl, refl, c.in-None.is, refl, refl)

pub returns-in-Some : goal.returns-in-Some
returns-in-Some c =
    let s = signal_meaning c.args.s.now in
    (s, ap (λ (w : Option Range). with_words w s) c.in-Some.is, refl, refl, refl, refl, refl, ap (λ (w : Option Range). is_some w) c.in-Some.is, refl, refl, refl)

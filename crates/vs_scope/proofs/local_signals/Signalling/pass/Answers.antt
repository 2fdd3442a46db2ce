use Rattle.std.proofs.Common.{refl, ap}
use Rattle.vs_elaborated.specs.Functions.{Passed}
use Rattle.vs_scope.proofs.local_signals.Signalling.pass.Goals as goal

pub returns-clause-skipped : goal.returns-clause-skipped
returns-clause-skipped c = λ m k.
    record { signals = refl; next_is = c.in_ok-self.ensures m (ap (λ (p : Passed). p.input) (c.passed_input-one.ensures m k)); fault = refl; known = refl }

pub returns-clause-passed : goal.returns-clause-passed
returns-clause-passed c = λ m k. c.passed_input-one.ensures m k

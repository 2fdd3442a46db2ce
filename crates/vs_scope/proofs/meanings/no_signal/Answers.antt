use Rattle.std.proofs.Common.{refl}
use Rattle.vs_scope.specs.Views.{unknown_signal}
use Rattle.vs_scope.proofs.meanings.no_signal.Goals as goal

pub returns : goal.returns
returns c = (unknown_signal, refl, refl, refl, refl, refl, refl, refl, refl, refl)

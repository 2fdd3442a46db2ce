use Rattle.std.proofs.Common.{◌∙◌}
use Rattle.vs_scope.specs.Signalled.{net}
use Rattle.vs_scope.proofs.ArrayNets.{many_length}
use Rattle.vs_scope.proofs.signals.net_count.Goals as goal

pub returns-in-Some : goal.returns-in-Some
returns-in-Some c = c.length.ensures ∙ many_length (net c.args.s.now) c.in-Some.words c.if-s.true c.in-Some.is

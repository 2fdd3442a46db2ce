use Rattle.std.proofs.Common.{refl}
use Rattle.vs_desk.specs.Host.{register}
use Rattle.vs_desk.proofs.Failing.{fails_in}
use Rattle.vs_desk.proofs.host.HostDeskDesk.take.Goals as goal

pub returns-in-Err-clause-failed : goal.returns-in-Err-clause-failed
unfolding register
returns-in-Err-clause-failed g c = record {
  fails = fails_in _ _ c.args.self.now.failures c.count.new.self _ _ c.read_from.ensures.attached c.count.ensures;
  bytes = λ t. refl;
}

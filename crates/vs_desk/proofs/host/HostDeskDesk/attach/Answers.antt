use Rattle.std.proofs.Common.{refl}
use Rattle.vs_desk.specs.Host.{register}
use Rattle.vs_desk.proofs.Failing.{fails_in}
use Rattle.vs_desk.proofs.host.HostDeskDesk.attach.Goals as goal

pub returns-in-Err-clause-failed : goal.returns-in-Err-clause-failed
unfolding register
returns-in-Err-clause-failed g c = record {
  fails = fails_in _ _ c.args.self.now.failures c.count_attach.new.self _ _ c.in-Err.ensures.err (rw c.in-Err.ensures.path at c.count_attach.ensures);
  bytes = λ t. refl;
}

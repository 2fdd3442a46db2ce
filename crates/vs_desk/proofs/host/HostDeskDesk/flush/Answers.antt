use Rattle.std.proofs.Common.{refl}
use Rattle.vs_desk.specs.Host.{register}
use Rattle.vs_desk.proofs.Failing.{fails_in}
use Rattle.vs_desk.proofs.host.HostDeskDesk.flush.Goals as goal

pub returns-in-Err-clause-failed : goal.returns-in-Err-clause-failed
unfolding register
returns-in-Err-clause-failed g c = record {
  fails = fails_in _ _ c.args.self.now.failures c.count.new.self _ _ c.write_out.ensures.attached c.count.ensures;
  bytes = λ t. refl;
}

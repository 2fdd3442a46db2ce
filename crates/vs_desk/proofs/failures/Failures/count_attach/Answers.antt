use Rattle.std.proofs.Common.{refl}
use Rattle.vs_desk.proofs.failures.Failures.count_attach.Goals as goal

pub returns : goal.returns
returns c = λ attached. let f = c.count.ensures attached in record {
  attached = f.attached;
  fault = f.fault;
  loss = f.loss;
  no_fault = f.no_fault;
  no_loss = f.no_loss;
  noted = f.noted;
  not_noted = f.not_noted;
  path = refl;
}

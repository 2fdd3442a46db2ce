use Rattle.vs_code.proofs.Runs.{called-append, called_parts, called_one, one_called}
use Rattle.vs_code.proofs.laws.sequence_law.Goals as goal

pub returns : goal.returns
returns c = record {
  both = λ first second before after.
      (called_parts first second before after, λ h. called-append first second before h.0 after h.1 h.2);
  one = λ call before after. (one_called call before after, called_one call before after);
}

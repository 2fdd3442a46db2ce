use Rattle.vs_refusal.proofs.Chained.{all_then}
use Rattle.vs_explanation.proofs.ended.put_read_fault.Goals as goal

pub returns : goal.returns
returns g c = all_then c.put_law.ensures.parts _ _ _ _ _ _ _ c.in_ok-put_path.ensures c.put_text.ensures

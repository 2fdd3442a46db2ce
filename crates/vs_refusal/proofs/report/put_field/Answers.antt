use Rattle.vs_refusal.proofs.Chained.{put_then}
use Rattle.vs_refusal.proofs.report.put_field.Goals as goal

pub returns : goal.returns
returns g c =
    rw (← c.text.ensures)
    (put_then c.put_law.ensures.parts _ _ _ _ _ _ _ c.in_ok-put_text.ensures c.put_number.ensures)

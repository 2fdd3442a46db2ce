use Rattle.std.specs.List.{flat_map}
use Rattle.vs_refusal.specs.Refusals.{field_text}
use Rattle.vs_refusal.specs.Endings.{ending_fields}
use Rattle.vs_refusal.proofs.Chained.{put_then, failed_before}
use Rattle.vs_refusal.proofs.report.put_ending.Goals as goal

pub returns-in_err-put_text : goal.returns-in_err-put_text
returns-in_err-put_text g c = rw (← c.text.ensures) (failed_before _ _ c.text.result.now _ _ _ c.from_residual.ensures.0 c.in_err-put_text.ensures)

pub returns-in_err-put_fields : goal.returns-in_err-put_fields
returns-in_err-put_fields g c =
    rw (← c.text.ensures)
    (put_then c.put_law.ensures.parts _ _ _ c.text.result.now _ _ _ c.in_ok-put_text.ensures
    (failed_before _ _ (flat_map field_text (ending_fields c.args.ending.now)) _ _ _ c.from_residual-in_err-put_fields.ensures.0 c.in_err-put_fields.ensures))

pub returns : goal.returns
returns g c =
    rw (← c.text.ensures)
    (put_then c.put_law.ensures.parts _ _ _ c.text.result.now _ _ _ c.in_ok-put_text.ensures
    (put_then c.put_law.ensures.parts _ _ _ (flat_map field_text (ending_fields c.args.ending.now)) _ _ _ c.in_ok-put_fields.ensures c.put_text-2.ensures))

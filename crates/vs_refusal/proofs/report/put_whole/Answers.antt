use Rattle.std.specs.List.{flat_map}
use Rattle.vs_refusal.specs.Refusals.{head_text, list_text, fields, field_text}
use Rattle.vs_refusal.proofs.Chained.{put_then, failed_before}
use Rattle.vs_refusal.proofs.report.put_whole.Goals as goal

pub returns-in_err-put_head : goal.returns-in_err-put_head
returns-in_err-put_head g c = failed_before _ _ (head_text c.args.refusal.now) _ _ _ c.from_residual.ensures.0 c.in_err-put_head.ensures

pub returns-in_err-put_list : goal.returns-in_err-put_list
returns-in_err-put_list g c =
    put_then c.put_law.ensures.parts _ _ _ (head_text c.args.refusal.now) _ _ _ c.in_ok-put_head.ensures
    (failed_before _ _ (list_text c.args.refusal.now) _ _ _ c.from_residual-in_err-put_list.ensures.0 c.in_err-put_list.ensures)

pub returns-in_err-put_fields : goal.returns-in_err-put_fields
returns-in_err-put_fields g c =
    put_then c.put_law.ensures.parts _ _ _ (head_text c.args.refusal.now) _ _ _ c.in_ok-put_head.ensures
    (put_then c.put_law.ensures.parts _ _ _ (list_text c.args.refusal.now) _ _ _ c.in_ok-put_list.ensures
    (failed_before _ _ (flat_map field_text (fields c.args.refusal.now)) _ _ _ c.from_residual-in_err-put_fields.ensures.0 c.in_err-put_fields.ensures))

pub returns : goal.returns
returns g c =
    put_then c.put_law.ensures.parts _ _ _ (head_text c.args.refusal.now) _ _ _ c.in_ok-put_head.ensures
    (put_then c.put_law.ensures.parts _ _ _ (list_text c.args.refusal.now) _ _ _ c.in_ok-put_list.ensures
    (put_then c.put_law.ensures.parts _ _ _ (flat_map field_text (fields c.args.refusal.now)) _ _ _ c.in_ok-put_fields.ensures c.put_text.ensures))

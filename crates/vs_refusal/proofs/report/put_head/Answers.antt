use Rattle.std.proofs.Common.{◌++◌, decimal, codes}
use Rattle.vs_refusal.specs.Refusals.{number, name}
use Rattle.vs_refusal.proofs.Chained.{put_then, failed_before}
use Rattle.vs_refusal.proofs.report.put_head.Goals as goal

pub returns-in_err-put_text : goal.returns-in_err-put_text
returns-in_err-put_text g c = failed_before _ _ (codes "refused ") (decimal (number c.args.refusal.now) ++ (codes " " ++ name c.args.refusal.now)) _ _ c.from_residual.ensures.0 c.in_err-put_text.ensures

pub returns-in_err-put_number : goal.returns-in_err-put_number
returns-in_err-put_number g c =
    rw (← c.number.ensures)
    (put_then c.put_law.ensures.parts _ _ _ (codes "refused ") (decimal c.number.result ++ (codes " " ++ name c.args.refusal.now)) c.in_ok-put_text.field-0 _ c.in_ok-put_text.ensures
    (failed_before _ _ (decimal c.number.result) (codes " " ++ name c.args.refusal.now) _ _ c.from_residual-in_err-put_number.ensures.0 c.in_err-put_number.ensures))

pub returns-in_err-put_text-2 : goal.returns-in_err-put_text-2
returns-in_err-put_text-2 g c =
    rw (← c.number.ensures)
    (put_then c.put_law.ensures.parts _ _ _ (codes "refused ") (decimal c.number.result ++ (codes " " ++ name c.args.refusal.now)) c.in_ok-put_text.field-0 _ c.in_ok-put_text.ensures
    (put_then c.put_law.ensures.parts _ _ _ (decimal c.number.result) (codes " " ++ name c.args.refusal.now) c.in_ok-put_number.field-0 _ c.in_ok-put_number.ensures
    (failed_before _ _ (codes " ") (name c.args.refusal.now) _ _ c.from_residual-in_err-put_text-2.ensures.0 c.in_err-put_text-2.ensures)))

pub returns : goal.returns
returns g c =
    rw (← c.number.ensures, ← c.name.ensures)
    (put_then c.put_law.ensures.parts _ _ _ (codes "refused ") (decimal c.number.result ++ (codes " " ++ c.name.result.now)) c.in_ok-put_text.field-0 _ c.in_ok-put_text.ensures
    (put_then c.put_law.ensures.parts _ _ _ (decimal c.number.result) (codes " " ++ c.name.result.now) c.in_ok-put_number.field-0 _ c.in_ok-put_number.ensures
    (put_then c.put_law.ensures.parts _ _ _ (codes " ") c.name.result.now c.in_ok-put_text-2.field-0 _ c.in_ok-put_text-2.ensures c.put_text-3.ensures)))

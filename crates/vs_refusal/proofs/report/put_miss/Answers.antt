use Rattle.std.proofs.Common.{codes}
use Rattle.std.specs.List.{flat_map}
use Rattle.vs_refusal.specs.Refusals.{field_text}
use Rattle.vs_refusal.specs.Misses.{miss_fields, digits_text}
use Rattle.vs_refusal.proofs.Chained.{put_then, failed_before}
use Rattle.vs_refusal.proofs.report.put_miss.Goals as goal

pub returns-in_err-put_text : goal.returns-in_err-put_text
returns-in_err-put_text g c = failed_before _ _ (codes "missed") _ _ _ c.from_residual.ensures.0 c.in_err-put_text.ensures

pub returns-in_err-put_fields : goal.returns-in_err-put_fields
returns-in_err-put_fields g c =
    let m = c.args.miss.now in
    put_then c.put_law.ensures.parts _ _ _ (codes "missed") _ _ _ c.in_ok-put_text.ensures
    (failed_before _ _ (flat_map field_text (miss_fields m.lane m.line m.output)) _ _ _ c.from_residual-in_err-put_fields.ensures.0 c.in_err-put_fields.ensures)

pub returns-in_err-put_digits : goal.returns-in_err-put_digits
returns-in_err-put_digits g c =
    let m = c.args.miss.now in
    put_then c.put_law.ensures.parts _ _ _ (codes "missed") _ _ _ c.in_ok-put_text.ensures
    (put_then c.put_law.ensures.parts _ _ _ (flat_map field_text (miss_fields m.lane m.line m.output)) _ _ _ c.in_ok-put_fields.ensures
    (failed_before _ _ (digits_text m.wanted.now m.got.now) _ _ _ c.from_residual-in_err-put_digits.ensures.0 c.in_err-put_digits.ensures))

pub returns : goal.returns
returns g c =
    let m = c.args.miss.now in
    put_then c.put_law.ensures.parts _ _ _ (codes "missed") _ _ _ c.in_ok-put_text.ensures
    (put_then c.put_law.ensures.parts _ _ _ (flat_map field_text (miss_fields m.lane m.line m.output)) _ _ _ c.in_ok-put_fields.ensures
    (put_then c.put_law.ensures.parts _ _ _ (digits_text m.wanted.now m.got.now) _ _ _ c.in_ok-put_digits.ensures c.put_text-2.ensures))

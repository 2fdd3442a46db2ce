use Rattle.std.proofs.Common.{◌≡◌, Some, sym, ◌∙◌, arith}
use Rattle.std.specs.List.{slice_get}
use Rattle.std.proofs.lemmas.Option.{slice_get_within}
use Rattle.vs_refusal.specs.Refusals.{field_text}
use Rattle.vs_refusal.proofs.Chained.{put_then, failed_before, next_text, split_texts, moved, all_texts}
use Rattle.vs_refusal.proofs.report.put_fields.Goals as goal

pub returns-in_err-put_field : goal.returns-in_err-put_field
returns-in_err-put_field g c =
    rw (split_texts field_text (g.F.Fields.fields_of c.args.fielded.now) c.loop-field.n _ (sym c.field.ensures ∙ c.in-Some.is))
    (put_then c.put_law.ensures.parts _ _ _ _ _ _ _ c.loop-field.invariant.1 (failed_before _ _ _ _ _ _ c.from_residual.ensures.0 c.in_err-put_field.ensures))

pub loop-field-preserved : goal.loop-field-preserved
loop-field-preserved g c =
    let here : slice_get (g.F.Fields.fields_of c.args.fielded.now) c.loop-field.n ≡ Some _ = sym c.field.ensures ∙ c.in-Some.is in (
      omega (arith, slice_get_within (g.F.Fields.fields_of c.args.fielded.now) c.loop-field.n _ here),
      rw (next_text field_text (g.F.Fields.fields_of c.args.fielded.now) c.loop-field.n _ here) (moved _ _ _ _ (put_then c.put_law.ensures.parts _ _ _ _ _ _ _ c.loop-field.invariant.1 c.in_ok-put_field.ensures)),
    )

pub overflow_add-n : goal.overflow_add-n
overflow_add-n g c = omega (arith, c.loop-field.invariant.0, g.met.F.Fields.few c.args.fielded.now)

pub loop-field-smaller : goal.loop-field-smaller
loop-field-smaller g c = omega (arith, slice_get_within (g.F.Fields.fields_of c.args.fielded.now) c.loop-field.n _ (sym c.field.ensures ∙ c.in-Some.is))

pub returns : goal.returns
returns g c =
    rw (← all_texts field_text (g.F.Fields.fields_of c.args.fielded.now) c.loop-field.n (sym c.field.ensures ∙ c.in_default.is) c.loop-field.invariant.0)
    (moved _ _ _ _ c.loop-field.invariant.1)

use Rattle.std.proofs.lemmas.Option.{slice_get-get_or}
use Rattle.vs_refusal.specs.Refusals.{next_number}
use Rattle.vs_refusal.proofs.Chained.{put_then, failed_before, next_text, split_texts, moved}
use Rattle.vs_refusal.proofs.report.put_more_numbers.Goals as goal

pub returns-in_err-put_next_number : goal.returns-in_err-put_next_number
returns-in_err-put_next_number g c =
    rw (split_texts next_number c.args.numbers.now c.loop-number.number-index _ (slice_get-get_or c.args.numbers.now c.loop-number.number-index 0 c.loop-number-test.true))
    (put_then c.put_law.ensures.parts _ _ _ _ _ _ _ c.loop-number.invariant (failed_before _ _ _ _ _ _ c.from_residual.ensures.0 c.in_err-put_next_number.ensures))

pub loop-number-preserved : goal.loop-number-preserved
loop-number-preserved g c =
    rw (next_text next_number c.args.numbers.now c.loop-number.number-index _ (slice_get-get_or c.args.numbers.now c.loop-number.number-index 0 c.loop-number-test.true))
    (moved _ _ _ _ (put_then c.put_law.ensures.parts _ _ _ _ _ _ _ c.loop-number.invariant c.in_ok-put_next_number.ensures))

use Rattle.vs_explanation.specs.Seen.{Seen}
use Rattle.vs_explanation.specs.Refused.{refusal_text}
use Rattle.vs_explainer.proofs.Sights.{on_page, same_seen}
use Rattle.vs_explainer.proofs.refusals.seen_page.Goals as goal

pub returns : goal.returns
returns c =
    on_page (λ (s : Seen). refusal_text c.args.job.now s c.args.refusal.now) c.new-page.result c.push_refusal.new.page _ _ c.new-page.ensures c.in_ok-push_refusal.ensures
    (same_seen _ _ _ _ c.args.file.now.head _ _ _ _ _ _ c.file_of.ensures c.as_slice.ensures.value c.drawing_of.ensures c.heavy_of.ensures c.ports_of.ensures)

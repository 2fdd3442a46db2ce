use Rattle.std.proofs.Common.{◌++◌, List, ℕ, codes, ap, ◌∙◌}
use Rattle.vs_hints.specs.Hints as hint
use Rattle.vs_explanation.proofs.Added.{then_ok}
use Rattle.vs_explanation.proofs.notes.push_remedy.Goals as goal

pub returns : goal.returns
returns c =
    then_ok c.text-3.result _ _ _ (codes "note: ") _ c.in_ok-text.ensures
    (then_ok c.text-3.result _ _ _ (hint.remedy c.args.refusal.now) _ (c.in_ok-text-2.ensures ∙ ap (λ (xs : List ℕ). c.text.new.self ++ xs) c.remedy.ensures) c.text-3.ensures)

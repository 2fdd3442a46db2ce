use Rattle.std.proofs.Common.{ℕ, List, take, ap, ◌∙◌}
use Rattle.vs_reread.specs.Again.{most_stimulus, first_lines}
use Rattle.vs_explainer.proofs.missed.read_path.Goals as goal

pub returns-in-Ok-read_lane-clause-text : goal.returns-in-Ok-read_lane-clause-text
returns-in-Ok-read_lane-clause-text g c = λ t.
    c.in-Ok-read_lane.ensures.text t ∙ ap (λ (p : List ℕ). first_lines c.args.row (take most_stimulus ((g.D.Desk.told c.args.desk.now).contents.files p))) c.in-Ok.ensures.ok

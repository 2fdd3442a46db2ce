use Rattle.std.proofs.Common.{Some, sym, ap, ◌∙◌}
use Rattle.vs_explainer.proofs.Founds.{row_seen}
use Rattle.vs_explainer.proofs.missed.read_row.Goals as goal

pub returns : goal.returns
returns g c =
    row_seen (λ v. v.items) c.args.job.now c.args.lane c.args.row (g.D.Desk.told c.args.desk.now) (g.D.Desk.told c.read_path.new.desk) c.as_str.result.now c.read_path.result
    c.read_path.ensures.only c.read_path.ensures.text (c.get.ensures ∙ ap Some (sym c.as_str.ensures))

use Rattle.std.proofs.Common.{List, ℕ, subst}
use Rattle.vs_desk.specs.Desk.{PutsAll}
use Rattle.vs_explainer.proofs.endings.explain_usage.Goals as goal

pub returns : goal.returns
returns g c =
    (c.put_all.result, subst (λ (t : List ℕ). PutsAll (g.D.Desk.told c.args.desk.now) (g.D.Desk.told c.put_all.new.desk) 0 t c.put_all.result) c.as_bytes.ensures.value c.put_all.ensures.puts)

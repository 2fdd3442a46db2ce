use Rattle.std.proofs.Common.{List, ℕ, ◌∙◌, subst}
use Rattle.vs_desk.specs.Desk.{PutsAll}
use Rattle.vs_explainer.specs.Told.ExplainsRefusal.{explained}
use Rattle.vs_explainer.proofs.refusals.explain_refusal.Goals as goal

pub returns-in-Ok : goal.returns-in-Ok
returns-in-Ok g c =
    let p = c.in-Ok.ensures.page in
    let middle = g.D.Desk.told c.page_of.new.desk in
    explained p.0 middle p.1
    (c.put_all.result, subst (λ (t : List ℕ). PutsAll middle (g.D.Desk.told c.put_all.new.desk) 0 t c.put_all.result) (c.as_slice.ensures ∙ p.2) c.put_all.ensures.puts)

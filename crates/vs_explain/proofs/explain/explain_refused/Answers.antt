use Rattle.vs_explain.proofs.explain.explain_refused.Goals as goal

pub returns-in-Some : goal.returns-in-Some
returns-in-Some g c = rw c.in-Some.is c.explain_refusal.ensures

use Rattle.vs_explainer.proofs.endings.explain_ending.Goals as goal

pub returns : goal.returns
returns g c = (c.put_ending.result, c.put_ending.ensures)

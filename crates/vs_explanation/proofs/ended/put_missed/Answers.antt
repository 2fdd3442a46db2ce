use Rattle.std.proofs.Common.{List, ℕ, ◌==◌, codes, ne_eqb, sym, subst}
use Rattle.vs_desk.specs.Desk.{PutsAll}
use Rattle.vs_explanation.specs.Ended.{counted}
use Rattle.vs_explanation.proofs.Added.{second_of}
use Rattle.vs_explanation.proofs.ended.put_missed.Goals as goal

pub returns : goal.returns
returns g c =
    subst (λ (t : List ℕ). PutsAll (g.D.Desk.told c.args.desk.now) (g.D.Desk.told c.put_counted.new.desk) 0 t c.put_counted.result)
    (sym (second_of (c.args.missed == 0) (codes "note: no lane missed what its stimulus wants\n") (counted (codes "error: lanes that missed what their stimuli want: ") c.args.missed) (ne_eqb c.args.missed 0 c.if-missed-eq0.false)))
    c.put_counted.ensures

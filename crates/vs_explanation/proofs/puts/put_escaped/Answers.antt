use Rattle.std.proofs.Common.{List, ℕ, sym, ◌∙◌, subst}
use Rattle.vs_desk.specs.Desk.{PutsAll}
use Rattle.vs_explanation.proofs.Printable.{all_shown}
use Rattle.vs_explanation.proofs.puts.put_escaped.Goals as goal

pub returns-then-are_printable : goal.returns-then-are_printable
returns-then-are_printable g c =
    let same = all_shown c.args.bytes.now (sym c.are_printable.ensures ∙ c.if-are_printable.true) in
    subst (λ (t : List ℕ). PutsAll (g.D.Desk.told c.args.desk.now) (g.D.Desk.told c.put_all.new.desk) 0 t c.put_all.result) (sym same) c.put_all.ensures.puts

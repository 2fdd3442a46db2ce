use Rattle.std.proofs.Common.{List, ℕ, ◌==◌, ne_eqb, sym, subst}
use Rattle.vs_desk.specs.Desk.{PutsAll}
use Rattle.vs_explanation.specs.Ended.{output_fault_text, file_fault_text}
use Rattle.vs_explanation.proofs.Added.{second_of}
use Rattle.vs_explanation.proofs.ended.put_write_fault.Goals as goal

pub returns : goal.returns
returns g c =
    subst (λ (t : List ℕ). PutsAll (g.D.Desk.told c.args.desk.now) (g.D.Desk.told c.put_file_fault.new.desk) 0 t c.put_file_fault.result)
    (sym (second_of (c.args.place == 0) output_fault_text (file_fault_text c.args.job.now c.args.place) (ne_eqb c.args.place 0 c.if-place-eq0.false)))
    c.put_file_fault.ensures

use Rattle.vs_setup.proofs.Files.{AreRead}
use Rattle.vs_setup.proofs.design_text.read_design.Given as goal

abbrev pub invariant-loop-i : goal.invariant-loop-i
invariant-loop-i g l = AreRead l.job (g.D.Desk.told l.fn.desk) (g.D.Desk.told l.desk) l.i l.text.items

use Rattle.vs_block.proofs.Looking.{differ, same_kept}
use Rattle.vs_block.proofs.block.look_into.Goals as goal

pub returns-then-not-lenient : goal.returns-then-not-lenient
returns-then-not-lenient c = record { sound = c.requires.sound; kept = same_kept c.args.shapes.now c.args.cases.now; noted = λ h. absurd (differ c.args.lenient h c.if-not-lenient.true) }

pub returns : goal.returns
returns c = let g = c.in_ok-note.ensures in record { sound = g.sound; kept = g.kept; noted = λ h. g.noted }

use Rattle.vs_sets.proofs.Steps.{move_up-is}
use Rattle.vs_sets.proofs.bitwise.moved_up.Goals as goal

pub returns : goal.returns
returns c = let e = move_up-is c.args.fill c.args.places c.args.sets.now c.requires.within in cc

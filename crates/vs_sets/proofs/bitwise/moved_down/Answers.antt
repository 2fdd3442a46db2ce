use Rattle.vs_sets.proofs.Steps.{moved_down_made}
use Rattle.vs_sets.proofs.bitwise.moved_down.Goals as goal

pub returns : goal.returns
returns c = moved_down_made c.args.fill c.args.places c.args.sets.now _ _ _ c.requires.within c.new-list.ensures c.append.ensures c.push_copies.ensures

use Rattle.vs_full.proofs.Noting.{both_kept}
use Rattle.vs_full.proofs.cases.Cases.note.Goals as goal

pub note_in-requires-clause-sound : goal.note_in-requires-clause-sound
note_in-requires-clause-sound c = c.in_ok-reach.ensures.sound

pub note_in-requires-clause-room : goal.note_in-requires-clause-room
note_in-requires-clause-room c = c.in_ok-reach.ensures.noted

pub returns : goal.returns
returns c =
    let f = c.in_ok-reach.ensures in
    let g = c.in_ok-note_in.ensures in
    record { sound = g.sound; kept = both_kept c.args.shapes.now c.args.self.now c.reach.new.self c.note_in.new.self f.kept g.kept; noted = g.noted }

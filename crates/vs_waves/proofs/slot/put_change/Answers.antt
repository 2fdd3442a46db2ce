use Rattle.std.proofs.Common.{◌++◌, ℕ, List, [], ◌∷◌, length, take, sym, ap, ◌∙◌, subst, append-nil}
use Rattle.vs_vcd.specs.Values.{value_line}
use Rattle.vs_waves.specs.Puts.{PutsFront}
use Rattle.vs_waves.proofs.Draining.{front-none}
use Rattle.vs_waves.proofs.Changed.{bit_here, row_here, line_not_here, named_here, tail_here, front_line}
use Rattle.vs_waves.proofs.slot.put_change.Goals as goal

pub returns-then-not-bit-clause-bytes : goal.returns-then-not-bit-clause-bytes
returns-then-not-bit-clause-bytes g c = λ t.
    let kept = take c.args.filled c.args.block.now in
    let r = (g.D.Desk.told c.args.desk.now).register in
    let now = (g.D.Desk.told c.args.desk.now).contents in
    let none = line_not_here g.W.Word.lane g.W.Word.LANES c.args.changes.now c.args.lane c.args.n c.at-change.result.now c.at-change.ensures c.bit.result c.bit.ensures c.if-not-bit.true in
    subst (λ (text : List ℕ). PutsFront r now now c.args.place text kept) (sym (append-nil kept) ∙ ap (λ (l : List ℕ). kept ++ l) (sym none)) (front-none r now c.args.place kept c.put_law.ensures.nothing)

pub bounds-tails-change : goal.bounds-tails-change
bounds-tails-change g c = named_here c.args.changes.now c.args.n c.at-change.result.now (length c.args.tails.now) c.at-change.ensures c.requires.changes.named

pub returns-in-Some-clause-bytes : goal.returns-in-Some-clause-bytes
returns-in-Some-clause-bytes g c = λ t.
    let change = c.at-change.result.now in
    let inside = named_here c.args.changes.now c.args.n change (length c.args.tails.now) c.at-change.ensures c.requires.changes.named in
    front_line (g.D.Desk.told c.args.desk.now).register (g.D.Desk.told c.args.desk.now).contents (g.D.Desk.told c.make_room.new.desk).contents c.args.place
    (take c.args.filled c.args.block.now) (take c.in_ok-at.at c.args.block.now) _ _ _
    (c.in_ok-at.ensures.bytes t)
    (bit_here g.W.Word.lane g.W.Word.LANES c.args.changes.now c.args.lane c.args.n change c.in-Some.pair c.at-change.ensures c.bit.result c.bit.ensures c.if-not-bit.false c.in-Some.is)
    (c.put_bit.ensures.text change.signal (tail_here c.args.tails.now change.signal c.index-tails-change.result c.requires.tails inside c.index-tails-change.is)
    ∙ ap (λ bit. take c.in_ok-at.at c.args.block.now ++ value_line change.signal (bit ∷ [])) c.lane.ensures)

pub returns-in-None-clause-bytes : goal.returns-in-None-clause-bytes
returns-in-None-clause-bytes g c = λ t.
    let change = c.at-change.result.now in
    let inside = named_here c.args.changes.now c.args.n change (length c.args.tails.now) c.at-change.ensures c.requires.changes.named in
    front_line (g.D.Desk.told c.args.desk.now).register (g.D.Desk.told c.args.desk.now).contents (g.D.Desk.told c.make_room.new.desk).contents c.args.place
    (take c.args.filled c.args.block.now) (take c.in_ok-at.at c.args.block.now) _ _ _
    (c.in_ok-at.ensures.bytes t)
    (row_here g.W.Word.lane g.W.Word.LANES c.args.changes.now c.args.lane c.args.n change c.value.result c.at-change.ensures c.bit.result c.bit.ensures c.if-not-bit.false c.in-None.is c.value.ensures)
    (c.put_value.ensures.text change.signal (tail_here c.args.tails.now change.signal c.index-tails-change.result c.requires.tails inside c.index-tails-change.is))

use Rattle.std.proofs.Common.{◌≡◌, ◌++◌, ℕ, List, take, ap, ◌∙◌, subst, append_assoc}
use Rattle.vs_waves.specs.Changes.{changes_text}
use Rattle.vs_waves.specs.Puts.{Moves}
use Rattle.vs_waves.specs.Slots.{closing}
use Rattle.vs_waves.proofs.Moving.{moves_as, moves_failed, moves_before, moves_then}
use Rattle.vs_waves.proofs.slot.Slot.put.Goals as goal

three : (kept a b c : List ℕ) → ((kept ++ a) ++ b) ++ c ≡ kept ++ (a ++ (b ++ c))
three kept a b c = append_assoc (kept ++ a) b c ∙ append_assoc kept a (b ++ c)

pub returns-in_err-opened-clause-moved : goal.returns-in_err-opened-clause-moved
returns-in_err-opened-clause-moved g c =
    let kept = take c.args.filled c.args.block.now in
    let s = c.args.self.now in
    let a = take s.opened s.opening in
    let rest = changes_text g.W.Word.lane g.W.Word.LANES s.changes c.args.lane ++ closing s.is_first in
    subst (λ (text : List ℕ). Moves (g.D.Desk.told c.args.desk.now) (g.D.Desk.told c.put_text.new.desk) c.args.place text (λ n. take n c.put_text.new.block) c.from_residual.result) (append_assoc kept a rest)
    (moves_before _ _ _ (kept ++ a) rest _ _ _ c.from_residual.result c.from_residual.ensures.0 c.in_err-opened.ensures.moved)

pub returns-in_err-changed-clause-moved : goal.returns-in_err-changed-clause-moved
returns-in_err-changed-clause-moved g c =
    let kept = take c.args.filled c.args.block.now in
    let s = c.args.self.now in
    let a = take s.opened s.opening in
    let b = changes_text g.W.Word.lane g.W.Word.LANES s.changes c.args.lane in
    let z = closing s.is_first in
    let old = g.D.Desk.told c.args.desk.now in
    let new = g.D.Desk.told c.put_changes.new.desk in
    subst (λ (text : List ℕ). Moves old new c.args.place text (λ n. take n c.put_changes.new.block) c.from_residual-in_err-changed.result) (three kept a b z)
    (moves_before old new c.args.place ((kept ++ a) ++ b) z _ _ _ c.from_residual-in_err-changed.result c.from_residual-in_err-changed.ensures.0
    (moves_then c.put_law.ensures.parts old (g.D.Desk.told c.put_text.new.desk) new c.args.place (kept ++ a) b (λ n. take n c.put_text.new.block) _ c.in_ok-opened.opened _ c.in_ok-opened.ensures.moved c.in_err-changed.ensures.moved))

pub returns-in_err-closed-clause-moved : goal.returns-in_err-closed-clause-moved
returns-in_err-closed-clause-moved g c =
    let kept = take c.args.filled c.args.block.now in
    let s = c.args.self.now in
    let a = take s.opened s.opening in
    let b = changes_text g.W.Word.lane g.W.Word.LANES s.changes c.args.lane in
    let z = closing s.is_first in
    let old = g.D.Desk.told c.args.desk.now in
    let second = g.D.Desk.told c.put_changes.new.desk in
    let new = g.D.Desk.told c.put_text-2.new.desk in
    let ended = take c.in_ok-changed.changed c.put_changes.new.block in
    let two = moves_then c.put_law.ensures.parts old (g.D.Desk.told c.put_text.new.desk) second c.args.place (kept ++ a) b (λ n. take n c.put_text.new.block) (λ n. take n c.put_changes.new.block) c.in_ok-opened.opened _
    c.in_ok-opened.ensures.moved c.in_ok-changed.ensures.moved in
    let last = moves_as second new c.args.place _ _ _ _ (ap (λ (text : List ℕ). ended ++ text) c.closing.ensures) c.in_err-closed.ensures.moved in
    subst (λ (text : List ℕ). Moves old new c.args.place text (λ n. take n c.put_text-2.new.block) c.from_residual-in_err-closed.result) (three kept a b z)
    (moves_failed old new c.args.place (((kept ++ a) ++ b) ++ z) _ _ _ c.from_residual-in_err-closed.result c.from_residual-in_err-closed.ensures.0
    (moves_then c.put_law.ensures.parts old second new c.args.place ((kept ++ a) ++ b) z (λ n. take n c.put_changes.new.block) (λ n. take n c.put_text-2.new.block) c.in_ok-changed.changed _ two last))

pub returns-clause-moved : goal.returns-clause-moved
returns-clause-moved g c =
    let kept = take c.args.filled c.args.block.now in
    let s = c.args.self.now in
    let a = take s.opened s.opening in
    let b = changes_text g.W.Word.lane g.W.Word.LANES s.changes c.args.lane in
    let z = closing s.is_first in
    let old = g.D.Desk.told c.args.desk.now in
    let second = g.D.Desk.told c.put_changes.new.desk in
    let new = g.D.Desk.told c.put_text-2.new.desk in
    let ended = take c.in_ok-changed.changed c.put_changes.new.block in
    let two = moves_then c.put_law.ensures.parts old (g.D.Desk.told c.put_text.new.desk) second c.args.place (kept ++ a) b (λ n. take n c.put_text.new.block) (λ n. take n c.put_changes.new.block) c.in_ok-opened.opened _
    c.in_ok-opened.ensures.moved c.in_ok-changed.ensures.moved in
    let last = moves_as second new c.args.place _ _ _ _ (ap (λ (text : List ℕ). ended ++ text) c.closing.ensures) c.in_ok-closed.ensures.moved in
    moves_as old new c.args.place _ _ _ _ (three kept a b z)
    (moves_then c.put_law.ensures.parts old second new c.args.place ((kept ++ a) ++ b) z (λ n. take n c.put_changes.new.block) (λ n. take n c.put_text-2.new.block) c.in_ok-changed.changed _ two last)

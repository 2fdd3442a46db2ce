use Rattle.std.proofs.Common.{◌≡◌, ◌++◌, ℕ, Bool, true, false, List, refl, [], take, subst}
use Rattle.std.specs.Prelude.{if◌then◌else◌, not}
use Rattle.vs_waves.specs.Puts.{Moves}
use Rattle.vs_waves.specs.Slots.{slot_lines}
use Rattle.vs_waves.proofs.Moving.{moves_as, moves_none, moves_failed, moves_before, moves_then}
use Rattle.vs_waves.proofs.round.Round.put_noted.Goals as goal

-- what a wave whose fall was noted has left
noted_is : (b : Bool) (text : List ℕ) → not b ≡ false → text ≡ (if b then text else [])
noted_is true text e = refl
noted_is false text e = absurd (cc)

-- and one whose fall wasn't
unnoted_is : (b : Bool) (text : List ℕ) → not b ≡ true → [] ≡ (if b then text else [])
unnoted_is true text e = absurd (cc)
unnoted_is false text e = refl

pub returns-then-not-wave-clause-moved : goal.returns-then-not-wave-clause-moved
returns-then-not-wave-clause-moved g c =
    let s = c.args.self.now in
    let head = if s.fall.is_first then s.head.items else [] in
    let lines = slot_lines g.W.Word.lane g.W.Word.LANES s.fall c.args.lane in
    moves_none c.put_law.ensures.nothing (g.D.Desk.told c.args.desk.now) c.args.place _ _ _ (unnoted_is c.args.wave.is_noted (head ++ lines) c.if-not-wave.true)

pub returns-in_err-opened-clause-moved : goal.returns-in_err-opened-clause-moved
returns-in_err-opened-clause-moved g c =
    let s = c.args.self.now in
    let head = if s.fall.is_first then s.head.items else [] in
    let lines = slot_lines g.W.Word.lane g.W.Word.LANES s.fall c.args.lane in
    let old = g.D.Desk.told c.args.desk.now in
    let new = g.D.Desk.told c.put_text.new.desk in
    let opened = moves_as old new c.args.place _ _ _ _ c.first_head.ensures c.in_err-opened.ensures.moved in
    subst (λ (text : List ℕ). Moves old new c.args.place text (λ n. take n c.put_text.new.block) c.from_residual.result) (noted_is c.args.wave.is_noted (head ++ lines) c.if-not-wave.false)
    (moves_before old new c.args.place head lines _ _ _ c.from_residual.result c.from_residual.ensures.0 opened)

pub returns-in_err-filled-clause-moved : goal.returns-in_err-filled-clause-moved
returns-in_err-filled-clause-moved g c =
    let s = c.args.self.now in
    let head = if s.fall.is_first then s.head.items else [] in
    let lines = slot_lines g.W.Word.lane g.W.Word.LANES s.fall c.args.lane in
    let old = g.D.Desk.told c.args.desk.now in
    let now = g.D.Desk.told c.put_text.new.desk in
    let new = g.D.Desk.told c.put.new.desk in
    let opened = moves_as old now c.args.place _ _ _ _ c.first_head.ensures c.in_ok-opened.ensures.moved in
    subst (λ (text : List ℕ). Moves old new c.args.place text (λ n. take n c.put.new.block) c.from_residual-in_err-filled.result) (noted_is c.args.wave.is_noted (head ++ lines) c.if-not-wave.false)
    (moves_failed old new c.args.place (head ++ lines) _ _ _ c.from_residual-in_err-filled.result c.from_residual-in_err-filled.ensures.0
    (moves_then c.put_law.ensures.parts old now new c.args.place head lines (λ n. take n c.put_text.new.block) (λ n. take n c.put.new.block) c.in_ok-opened.opened _ opened c.in_err-filled.ensures.moved))

pub returns-clause-moved : goal.returns-clause-moved
returns-clause-moved g c =
    let s = c.args.self.now in
    let head = if s.fall.is_first then s.head.items else [] in
    let lines = slot_lines g.W.Word.lane g.W.Word.LANES s.fall c.args.lane in
    let old = g.D.Desk.told c.args.desk.now in
    let now = g.D.Desk.told c.put_text.new.desk in
    let new = g.D.Desk.told c.put.new.desk in
    let opened = moves_as old now c.args.place _ _ _ _ c.first_head.ensures c.in_ok-opened.ensures.moved in
    moves_as old new c.args.place _ _ _ _ (noted_is c.args.wave.is_noted (head ++ lines) c.if-not-wave.false)
    (moves_then c.put_law.ensures.parts old now new c.args.place head lines (λ n. take n c.put_text.new.block) (λ n. take n c.put.new.block) c.in_ok-opened.opened _ opened c.in_ok-filled.ensures.moved)

use Rattle.std.proofs.Common.{◌≡◌, ◌++◌, ℕ, Bool, List, [], take, sym, ap, ◌∙◌, subst}
use Rattle.std.specs.Prelude.{if◌then◌else◌}
use Rattle.vs_desk.specs.Desk.{PutsAll}
use Rattle.vs_vcd.specs.Texts.{time_line}
use Rattle.vs_waves.specs.Slots.{slot_lines, noted_text, lane_text}
use Rattle.vs_waves.proofs.Moving.{moves_then, moves_all, moves_lost, lost_before}
use Rattle.vs_waves.proofs.round.Round.put.Goals as goal

pub returns-in_err-noted-clause-puts : goal.returns-in_err-noted-clause-puts
returns-in_err-noted-clause-puts g c =
    let s = c.args.self.now in
    let noted = noted_text g.W.Word.lane g.W.Word.LANES s c.args.wave c.args.lane in
    let lines = slot_lines g.W.Word.lane g.W.Word.LANES s.rise c.args.lane in
    let old = g.D.Desk.told c.args.desk.now in
    let new = g.D.Desk.told c.put_noted.new.desk in
    subst (λ (live : Bool). PutsAll old new c.args.place (lane_text g.W.Word.lane g.W.Word.LANES s live c.args.time c.args.wave c.args.lane) c.from_residual.result) (sym c.if-live.true)
    (lost_before old new c.args.place noted lines _ _ c.from_residual.result c.from_residual.ensures.0 c.in_err-noted.ensures.moved)

pub returns-in_err-end-clause-puts : goal.returns-in_err-end-clause-puts
returns-in_err-end-clause-puts g c =
    let s = c.args.self.now in
    let noted = noted_text g.W.Word.lane g.W.Word.LANES s c.args.wave c.args.lane in
    let lines = slot_lines g.W.Word.lane g.W.Word.LANES s.rise c.args.lane in
    let old = g.D.Desk.told c.args.desk.now in
    let new = g.D.Desk.told c.put.new.desk in
    subst (λ (live : Bool). PutsAll old new c.args.place (lane_text g.W.Word.lane g.W.Word.LANES s live c.args.time c.args.wave c.args.lane) c.from_residual-in_err-end.result) (sym c.if-live.true)
    (moves_lost old new c.args.place (noted ++ lines) _ _ c.from_residual-in_err-end.result c.from_residual-in_err-end.ensures.0
    (moves_then c.put_law.ensures.parts old (g.D.Desk.told c.put_noted.new.desk) new c.args.place noted lines (λ n. take n c.put_noted.new.block) (λ n. take n c.put.new.block) c.in_ok-noted.noted _ c.in_ok-noted.ensures.moved c.in_err-end.ensures.moved))

pub returns-in_ok-end-clause-puts : goal.returns-in_ok-end-clause-puts
returns-in_ok-end-clause-puts g c =
    let s = c.args.self.now in
    let noted = noted_text g.W.Word.lane g.W.Word.LANES s c.args.wave c.args.lane in
    let lines = slot_lines g.W.Word.lane g.W.Word.LANES s.rise c.args.lane in
    let old = g.D.Desk.told c.args.desk.now in
    let now = g.D.Desk.told c.put.new.desk in
    let new = g.D.Desk.told c.put_all.new.desk in
    subst (λ (live : Bool). PutsAll old new c.args.place (lane_text g.W.Word.lane g.W.Word.LANES s live c.args.time c.args.wave c.args.lane) c.put_all.result) (sym c.if-live.true)
    (moves_all c.put_law.ensures.parts old now new c.args.place (noted ++ lines) (λ n. take n c.put.new.block) c.in_ok-end.end c.put_all.result
    (moves_then c.put_law.ensures.parts old (g.D.Desk.told c.put_noted.new.desk) now c.args.place noted lines (λ n. take n c.put_noted.new.block) (λ n. take n c.put.new.block) c.in_ok-noted.noted _ c.in_ok-noted.ensures.moved c.in_ok-end.ensures.moved)
    c.put_all.ensures.puts)

pub returns-then-wave-clause-puts : goal.returns-then-wave-clause-puts
returns-then-wave-clause-puts g c =
    let s = c.args.self.now in
    let text : take c.put_time-end.result c.put_time-end.new.block ≡ lane_text g.W.Word.lane g.W.Word.LANES s c.args.live c.args.time c.args.wave c.args.lane =
    c.put_time-end.ensures.text ∙ sym (ap (λ (live : Bool). lane_text g.W.Word.lane g.W.Word.LANES s live c.args.time c.args.wave c.args.lane) c.if-live.false ∙ ap (λ (b : Bool). if b then time_line c.args.time else []) c.if-wave.true) in
    subst (λ (bytes : List ℕ). PutsAll (g.D.Desk.told c.args.desk.now) (g.D.Desk.told c.put_all-then-wave.new.desk) c.args.place bytes c.put_all-then-wave.result) text c.put_all-then-wave.ensures.puts

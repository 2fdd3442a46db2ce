use Rattle.std.proofs.Common.{◌+◌, ◌||◌, ◌∙◌, Bool, sym, ap}
use Rattle.vs_plane.specs.Lanes.{slot_lane}
use Rattle.vs_engine.specs.Lanes.{differ_below, state}
use Rattle.vs_waves.proofs.last.lanes_to_write.Goals as goal

pub returns-else-all : goal.returns-else-all
returns-else-all g c = λ s i e l.
    c.changed.ensures s i e l
    ∙ ap (λ (b : Bool). b || differ_below (λ k. slot_lane g.W.Word.lane c.args.old.now k i) (λ k. state g.W.Word.lane c.args.engine.now i (s.first + k)) s.length) (sym c.if-all.false)

use Rattle.std.proofs.Common.{sym, ◌∙◌}
use Rattle.vs_feed.specs.Lanes.{lane_at}
use Rattle.vs_engine.specs.Lanes.{state}
use Rattle.vs_misses.proofs.Finds.{unmet_unnamed}
use Rattle.vs_misses.proofs.comparing.unmet_of_row.Goals as goal

pub returns-then-not-row : goal.returns-then-not-row
returns-then-not-row g c = record {
  lanes = λ i h.
      c.none.ensures i h
      ∙ sym (unmet_unnamed c.args.row.now.span c.args.row.now.places.items (lane_at c.args.drive.now i) (state g.W.Word.lane c.args.engine.now i) i (c.requires.row.unnamed c.if-not-row.true i));
}

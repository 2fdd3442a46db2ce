use Rattle.std.proofs.Common.{sym, ◌∙◌}
use Rattle.vs_feed.specs.Lanes.{lane_at}
use Rattle.vs_feed.proofs.Packs.{ended_planes}
use Rattle.vs_feed.proofs.column.planes_of.Goals as goal

pub returns-else-is_live : goal.returns-else-is_live
returns-else-is_live c count wide most = ended_planes count c.args.input (lane_at c.args.stimuli.now c.args.lane) (sym c.is_live.ensures ∙ c.if-is_live.false) most

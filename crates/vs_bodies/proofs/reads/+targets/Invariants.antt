use Rattle.std.proofs.Common.{◌≡◌, ◌++◌, take}
use Rattle.vs_const.specs.MentionViews.{all_told, all_told_of}
use Rattle.vs_bodies.proofs.MentionedParts.{targets_of}
use Rattle.vs_bodies.proofs.reads.+targets.Given as goal

abbrev pub invariant-push_targets-loop-part : goal.invariant-push_targets-loop-part
invariant-push_targets-loop-part g l = all_told l.list.items ≡ all_told l.fn.list.items ++ all_told_of (targets_of (g.E.Env.names l.env) (take l.part-index l.parts))

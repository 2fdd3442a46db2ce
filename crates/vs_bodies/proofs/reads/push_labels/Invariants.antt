use Rattle.std.proofs.Common.{◌≡◌, ◌++◌, take}
use Rattle.vs_const.specs.MentionViews.{all_told, all_told_of}
use Rattle.vs_bodies.proofs.MentionedParts.{labels_of}
use Rattle.vs_bodies.proofs.reads.push_labels.Given as goal

abbrev pub invariant-loop-label : goal.invariant-loop-label
invariant-loop-label g l = all_told l.list.items ≡ all_told l.fn.list.items ++ all_told_of (labels_of (g.E.Env.names l.env) (take l.label-index l.labels))

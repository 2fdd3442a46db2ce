use Rattle.std.proofs.Common.{◌≡◌, ◌++◌, take}
use Rattle.vs_const.specs.MentionViews.{all_told, all_told_of}
use Rattle.vs_bodies.specs.Mentions.{names_at}
use Rattle.vs_bodies.proofs.MentionedParts.{arms_of, sequence_of}
use Rattle.vs_bodies.proofs.reads.+statements.Given as goal

abbrev pub invariant-push_sequence-loop-s : goal.invariant-push_sequence-loop-s
invariant-push_sequence-loop-s g l = all_told l.list.items ≡ all_told l.fn.list.items ++ all_told_of (sequence_of (names_at (g.E.Env.names l.here.around.now.env.now) l.here.layers.now) (take l.s-index l.parts))

abbrev pub invariant-push_arms-loop-arm : goal.invariant-push_arms-loop-arm
invariant-push_arms-loop-arm g l = all_told l.list.items ≡ all_told l.fn.list.items ++ all_told_of (arms_of (names_at (g.E.Env.names l.here.around.now.env.now) l.here.layers.now) (take l.arm-index l.arms))

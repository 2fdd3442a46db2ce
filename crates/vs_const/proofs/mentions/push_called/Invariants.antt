use Rattle.std.proofs.Common.{◌≡◌, ◌++◌}
use Rattle.vs_const.specs.MentionViews.{all_told}
use Rattle.vs_const.proofs.Mentioning.{told_calls}
use Rattle.vs_const.proofs.mentions.push_called.Given as goal

abbrev pub invariant-loop-n : goal.invariant-loop-n
invariant-loop-n g l = all_told l.list.items ≡ all_told l.fn.list.items ++ told_calls l.n (g.E.Env.names l.env l.name.text)

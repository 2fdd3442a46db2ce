use Rattle.std.proofs.Common.{length, ◌∙◌}
use Rattle.vs_zero.specs.States.{state_of}
use Rattle.vs_zero.proofs.Writing.{word_put, word_unput}
use Rattle.vs_zero.proofs.targets.put_word_at.Goals as goal

pub returns-in-Some : goal.returns-in-Some
returns-in-Some c = c.put_run.ensures ∙ word_put c.args.first (length c.args.value.now) c.in-Some.n c.args.place c.args.value.now (state_of c.args.state.now) c.in-Some.is

pub returns-in_default : goal.returns-in_default
returns-in_default c = word_unput c.args.first (length c.args.value.now) c.args.place c.args.value.now (state_of c.args.state.now) c.in_default.is

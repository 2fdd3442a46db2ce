use Rattle.vs_shape.proofs.Gathering.{one_added}
use Rattle.vs_shape.proofs.Addressed.{word_run, no_word}
use Rattle.vs_shape.proofs.words.push_word.Goals as goal

pub returns-in-None : goal.returns-in-None
returns-in-None c = no_word c.args.out.now.items c.args.first c.args.len c.args.place c.in-None.is

pub returns-in-Some : goal.returns-in-Some
returns-in-Some c = one_added c.push_run.result c.args.out.now.items c.push_run.new.out.items _ _ c.push_run.ensures (word_run c.args.first c.args.len c.in-Some.n c.args.place c.in-Some.is)

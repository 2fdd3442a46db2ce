use Rattle.std.proofs.Common.{ap, ◌∙◌, replicate}
use Rattle.vs_sets.proofs.WordSteps.{word_found, word_missing}
use Rattle.vs_sets.proofs.words.word_at.Goals as goal

pub returns-in-Some : goal.returns-in-Some
returns-in-Some c = word_found c.args.memory.now c.list_of.result c.args.count c.args.len c.in-Some.n c.args.place c.requires.long (c.requires.below c.in-Some.n c.in-Some.is) c.in-Some.is c.list_of.ensures

pub returns-in-None : goal.returns-in-None
returns-in-None c = word_missing c.args.memory.now c.replicated.result c.args.len c.args.place c.in-None.is (c.replicated.ensures ∙ ap (replicate c.args.len) c.only.ensures)

use Rattle.std.proofs.Common.{◌*◌, map, ◌∙◌, arith}
use Rattle.vs_design.specs.Values.{count_from}
use Rattle.vs_sets.proofs.WordSteps.{word_ends}
use Rattle.vs_writes.specs.Held.{state_of}
use Rattle.vs_interpret.proofs.WordSteps.{word_is, no_word}
use Rattle.vs_interpret.proofs.words.word_at.Goals as goal

pub bits_at-requires-clause-there : goal.bits_at-requires-clause-there
bits_at-requires-clause-there c = let ends = word_ends c.args.count c.args.word.len c.in-Some.n (c.requires.below c.in-Some.n c.in-Some.is) in omega (arith, ends, c.requires.there)

pub returns-in-Some : goal.returns-in-Some
returns-in-Some c = c.bits_at.ensures ∙ word_is (state_of c.args.values.now) c.args.word.first c.args.word.len c.args.count c.in-Some.n c.args.place (c.requires.below c.in-Some.n c.in-Some.is) c.in-Some.is

pub returns-in-None : goal.returns-in-None
returns-in-None c = c.repeated.ensures ∙ no_word (map (state_of c.args.values.now) (count_from c.args.word.first (c.args.count * c.args.word.len))) c.args.word.len c.args.place c.in-None.is

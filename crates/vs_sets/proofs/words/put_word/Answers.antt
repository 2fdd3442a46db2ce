use Rattle.std.proofs.Common.{length, refl}
use Rattle.vs_sets.specs.Tables.{family_of}
use Rattle.vs_sets.proofs.WordSteps.{word_put, word_unput}
use Rattle.vs_sets.proofs.words.put_word.Goals as goal

pub returns-in-Some : goal.returns-in-Some
returns-in-Some c = word_put c.args.first (length c.args.sets.now) c.in-Some.n c.args.place c.args.sets.now (family_of c.args.table.now) (family_of c.put_run.new.table) c.in-Some.is c.put_run.ensures

pub returns-in_default : goal.returns-in_default
returns-in_default c = word_unput c.args.first (length c.args.sets.now) c.args.place c.args.sets.now (family_of c.args.table.now) (family_of c.args.table.now) c.in_default.is refl

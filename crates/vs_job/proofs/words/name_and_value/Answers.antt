use Rattle.std.proofs.Common.{None, arith}
use Rattle.std.proofs.lemmas.Str.Pattern.{split_parts}
use Rattle.vs_job.proofs.Options.{attached-none}
use Rattle.vs_job.proofs.words.name_and_value.Goals as goal

pub returns-in-None-clause-value : goal.returns-in-None-clause-value
returns-in-None-clause-value c = attached-none c.args.word.now (split_parts 61 c.args.word.now None c.in-None.ensures.cases (omega arith))

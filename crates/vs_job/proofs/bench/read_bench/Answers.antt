use Rattle.std.proofs.Common.{true, false, string_bytes, sym, ◌∙◌}
use Rattle.vs_job.proofs.Benches.{bench-few, bench-some}
use Rattle.vs_job.proofs.bench.read_bench.Goals as goal

pub returns-in_default-clause-answer : goal.returns-in_default-clause-answer
returns-in_default-clause-answer c = bench-few string_bytes c.args.words.now c.in_default.len_below

pub returns-in_default-2-clause-answer : goal.returns-in_default-2-clause-answer
returns-in_default-2-clause-answer c =
    bench-some string_bytes c.args.words.now c.command-item.result false c.in-len2-up.len_at_least c.command-item.is (rw (← c.as_str.ensures.value) (sym c.eq.ensures ∙ c.if-eq.false))

pub returns-in-len2-up-clause-answer : goal.returns-in-len2-up-clause-answer
returns-in-len2-up-clause-answer c =
    c.sized.ensures
    ∙ bench-some string_bytes c.args.words.now c.command-item.result true c.in-len2-up.len_at_least c.command-item.is (rw (← c.as_str.ensures.value) (sym c.eq.ensures ∙ c.if-eq.true))

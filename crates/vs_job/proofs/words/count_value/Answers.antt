use Rattle.std.proofs.Common.{sym, ◌∙◌, arith}
use Rattle.vs_job.proofs.Ranges.{count_value-range}
use Rattle.vs_job.proofs.words.count_value.Goals as goal

pub overflow_cast-result : goal.overflow_cast-result
overflow_cast-result c =
    let range = count_value-range c.from.result c.args.digits.now c.in_ok-count.count (sym c.number_value.ensures ∙ c.in_ok-count.was) in
    omega arith

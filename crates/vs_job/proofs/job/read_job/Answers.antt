use Rattle.std.proofs.Common.{None, Some, map, string_bytes, refl, sym, ap, ◌∙◌, rules}
use Rattle.vs_job.specs.Command.{line_of}
use Rattle.vs_job.specs.declared.job.Job.{Job}
use Rattle.vs_job.proofs.Ranges.{IsJob-job}
use Rattle.vs_job.proofs.InTurn.{job-line}
use Rattle.vs_job.proofs.job.read_job.Goals as goal

pub returns-in_default-clause-usage : goal.returns-in_default-clause-usage
returns-in_default-clause-usage c =
    let none = job-line (map string_bytes c.args.words.now) None c.in_default.ensures in
    (λ _. sym none, λ _. refl)

pub returns-in_default-called-clause-usage : goal.returns-in_default-called-clause-usage
returns-in_default-called-clause-usage c =
    let none = c.in_default-called.ensures ∙ job-line (map string_bytes c.args.words.now) (Some (line_of c.in-Some.line)) c.in-Some.ensures in
    (λ _. sym none, λ _. refl)

pub returns-in_err-job-clause-usage : goal.returns-in_err-job-clause-usage
returns-in_err-job-clause-usage c =
    let is = c.in-Some-called.ensures ∙ job-line (map string_bytes c.args.words.now) (Some (line_of c.in-Some.line)) c.in-Some.ensures in
    rw (← is) (search rules)

pub returns-clause-ok : goal.returns-clause-ok
returns-clause-ok c =
    sym (c.in-Some-called.ensures ∙ job-line (map string_bytes c.args.words.now) (Some (line_of c.in-Some.line)) c.in-Some.ensures)
    ∙ ap (λ (j : Job). Some j) (sym c.in_ok-job.ensures)

pub returns-clause-in_range : goal.returns-clause-in_range
returns-clause-in_range c = IsJob-job (map string_bytes c.args.words.now) c.in_ok-job.job (returns-clause-ok c)

pub returns-clause-usage : goal.returns-clause-usage
returns-clause-usage c = rw (returns-clause-ok c) (search rules)

use Rattle.std.proofs.Common.{◌≡◌, None, refl, ap}
use Rattle.std.specs.Prelude.{map, string_bytes}
use Rattle.vs_job.specs.Job.{job}
use Rattle.vs_explain.proofs.Unread.{unread}
use Rattle.vs_explain.proofs.explain.explain_words.Goals as goal

pub returns-in-Err-Memory : goal.returns-in-Err-Memory
returns-in-Err-Memory g c =
    let words = map string_bytes c.args.words.now in
    let some : job words ≡ None → ⊥ = λ e. let usage = c.read_job.ensures.usage.1 e in cc in
    unread words c.args.answered.now.outcome c.args.answered.now.found.items (g.D.Desk.told c.args.desk.now) (g.D.Desk.told c.explain_unread.new.desk) (job words) refl some c.explain_unread.ensures.memory
    (λ n. ap g.D.Desk.told (c.explain_unread.ensures.others n))

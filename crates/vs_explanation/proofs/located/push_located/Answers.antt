use Rattle.std.proofs.Common.{◌≡◌, ◌++◌, OnOk, subst}
use Rattle.vs_explanation.specs.Files.{FilePlace}
use Rattle.vs_explanation.specs.Located as spec
use Rattle.vs_explanation.specs.Seen.{seen_of}
use Rattle.vs_explanation.specs.Subjects.{subject}
use Rattle.vs_explanation.proofs.located.push_located.Goals as goal

pub returns : goal.returns
returns c =
    let job = c.args.job.now in
    let seen = seen_of c.args.seen.now in
    let refusal = c.args.refusal.now in
    subst (λ (p : FilePlace). OnOk c.push_located_in.result (c.push_located_in.new.page ≡ c.args.page.now ++ spec.located_in job seen refusal (subject job seen.drawn refusal) c.args.at p)) c.file_place.ensures
    c.push_located_in.ensures

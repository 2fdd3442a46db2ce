use Rattle.std.proofs.Common.{◌≡◌, ◌++◌, OnOk, subst}
use Rattle.vs_explanation.specs.Files.{FilePlace}
use Rattle.vs_explanation.specs.Placed as spec
use Rattle.vs_explanation.proofs.placed.push_found.Goals as goal

pub returns : goal.returns
returns c =
    subst (λ (p : FilePlace). OnOk c.push_place.result (c.push_place.new.page ≡ c.args.page.now ++ spec.found_in p)) c.file_place.ensures c.push_place.ensures

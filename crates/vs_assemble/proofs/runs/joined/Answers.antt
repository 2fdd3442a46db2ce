use Rattle.std.proofs.Common.{subst}
use Rattle.vs_assemble.specs.Runs.{AreJoinedRuns}
use Rattle.vs_assemble.proofs.Joining.{both_joined}
use Rattle.vs_assemble.proofs.runs.joined.Goals as goal

pub returns : goal.returns
returns c =
    both_joined c.args.first.now c.args.others.now c.append.new.runs.items c.append-2.new.runs.items
    (subst (λ rs. AreJoinedRuns rs c.args.first.now c.append.new.runs.items) c.new-runs.ensures.items c.in_ok-append.ensures) c.in_ok-append-2.ensures

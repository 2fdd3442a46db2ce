use Rattle.vs_assemble.proofs.Joining.{none_more, next_more, all_more}
use Rattle.vs_assemble.proofs.runs.append.Goals as goal

pub loop-run-init : goal.loop-run-init
loop-run-init c = none_more c.args.runs.now.items

pub loop-run-preserved : goal.loop-run-preserved
loop-run-preserved c =
    next_more c.args.runs.now.items c.args.others.now c.loop-run.runs.items c.push.new.runs.items c.loop-run.run-index c.loop-run-test.true c.loop-run.invariant c.in_ok-push.ensures

pub returns : goal.returns
returns c = all_more c.args.runs.now.items c.args.others.now c.loop-run.runs.items c.loop-run.run-index c.loop-run-test.false c.loop-run.invariant

use Rattle.std.proofs.Common.{◌++◌, ◌∷◌, [], sym, ap₂, ◌∙◌, arith}
use Rattle.vs_net.specs.Network.{Update, Write}
use Rattle.vs_queue.proofs.Drives.{given_more, given_all}
use Rattle.vs_queue.proofs.drive.update_of.Goals as goal

pub loop-n-preserved : goal.loop-n-preserved
loop-n-preserved c =
    c.in_ok-push.ensures ∙ ap₂ (λ (us : Update) (w : Write). us ++ w ∷ []) c.loop-n.invariant c.new.ensures
    ∙ sym (given_more c.args.first c.loop-n.n c.args.value c.get.result c.get.ensures)

pub returns : goal.returns
returns c =
    let l = c.loop-n-test.false in
    let m = c.len-n-end.ensures.length in
    c.loop-n.invariant ∙ given_all c.args.first c.loop-n.n c.args.value (omega (arith, l, m))

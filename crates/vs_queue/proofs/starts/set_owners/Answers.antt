use Rattle.std.proofs.Common.{List, ℕ, subst, arith}
use Rattle.std.proofs.lemmas.List.{take_all}
use Rattle.vs_queue.proofs.Owners.{Owned, owned_more}
use Rattle.vs_queue.proofs.starts.set_owners.Goals as goal

pub loop-i-preserved : goal.loop-i-preserved
loop-i-preserved c =
    let bits = c.args.bits.now in
    let i = c.loop-i.i in
    let below = c.requires i 0 c.loop-i-test.true in
    let long = c.loop-i.auto.owners in
    owned_more c.loop-i.owners c.args.owners.now bits i c.args.p c.loop-i-test.true (omega (arith, below, long)) c.loop-i.invariant

pub returns : goal.returns
returns c = subst (λ (bs : List ℕ). Owned bs c.args.p c.args.owners.now c.loop-i.owners) (take_all c.loop-i.i c.args.bits.now c.loop-i-test.false) c.loop-i.invariant

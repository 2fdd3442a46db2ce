use Rattle.std.proofs.Common.{◌-◌, [], ◌∷◌, arith}
use Rattle.std.specs.Prelude.{replicate}
use Rattle.std.proofs.lemmas.List.{length-replicate}
use Rattle.vs_sets.proofs.Steps.{moved, replicate_step, done_fits}
use Rattle.std.proofs.Common.{length-append}
use Rattle.vs_sets.proofs.list.SetList.push_copies.Goals as goal

pub push-requires : goal.push-requires
push-requires c =
    let e = done_fits c.loop-i.self _ _ c.loop-i.invariant in
    let f = length-append c.args.self.now (replicate c.args.count c.args.set) in
    let g = length-replicate c.args.count c.args.set in
    let h = length-replicate (c.args.count - c.loop-i._i) c.args.set in
    omega (arith, e, f, g, h)

pub loop-i-preserved : goal.loop-i-preserved
loop-i-preserved c =
    rw c.push.ensures (moved c.loop-i.self (c.args.set ∷ []) _ _ _ c.loop-i.invariant (replicate_step c.args.count c.loop-i._i c.args.set (omega arith)))

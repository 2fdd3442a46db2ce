use Rattle.std.proofs.Common.{take}
use Rattle.std.proofs.lemmas.List.{append_assoc}
use Rattle.std.specs.List.{concat}
use Rattle.vs_code.proofs.Counts.{concat_more}
use Rattle.vs_code.proofs.placed.append_args.Goals as goal

pub loop-arg-preserved : goal.loop-arg-preserved
loop-arg-preserved c =
    let lists = c.args.args.now in
    let n = c.loop-arg.arg-index in
    let more = concat_more lists n c.arg-item.result c.loop-arg-test.true in
    let assoc = append_assoc c.args.arena.now.items (concat (take n lists)) c.arg-item.result in
    cc (c.in_ok-extend_from_slice.ensures.items, c.as_slice.ensures, c.arg-item.is, more, assoc, c.loop-arg.invariant)

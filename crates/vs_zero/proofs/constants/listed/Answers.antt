use Rattle.std.proofs.Common.{◌++◌, ◌∷◌, [], ◌<◌, length, take, sym, ap, ◌∙◌, arith}
use Rattle.std.proofs.Math.ListN.{length-set}
use Rattle.std.proofs.lemmas.List.{take_more, take_more_set}
use Rattle.std.proofs.lemmas.Option.{get_or_from_slice_get}
use Rattle.vs_zero.proofs.constants.listed.Goals as goal

pub loop-k-preserved : goal.loop-k-preserved
loop-k-preserved c =
    let k = c.loop-k.k in
    let value = c.args.value in
    let v = c.get.result in
    let few : k < length value = omega (arith, c.len-k-end.ensures.length) in
    let room : k < length c.loop-k.list = omega (arith, c.loop-k.invariant.size, c.len-k-end.ensures.at_most_64) in
    record {
      size = length-set c.loop-k.list k v ∙ c.loop-k.invariant.size;
      same = take_more_set c.loop-k.list k v room ∙ ap (λ xs. xs ++ v ∷ []) c.loop-k.invariant.same ∙ sym (take_more value k v few ∙ ap (λ w. take k value ++ w ∷ []) (get_or_from_slice_get value k v v c.get.ensures));
    }

use Rattle.std.proofs.Common.{◌∙◌, ◌++◌, ◌+◌, [], ◌∷◌, List, ℕ, sym, ap}
use Rattle.vs_values.proofs.Lists.{range_more}
use Rattle.vs_values.proofs.code.new_slots.Goals as goal

pub loop-k-preserved : goal.loop-k-preserved
loop-k-preserved c = c.in_ok-push.ensures.items ∙ ap (λ (xs : List ℕ). xs ++ (c.args.first + c.loop-k.k) ∷ []) c.loop-k.invariant ∙ sym (range_more c.args.first c.loop-k.k)

use Rattle.std.proofs.Common.{◌∙◌, ◌+◌, ℕ, List, ◌++◌, [], ◌∷◌, slice_index, sym, ap}
use Rattle.vs_values.proofs.Named.{run_more}
use Rattle.vs_values.proofs.names.run.Goals as goal

pub loop-k-preserved : goal.loop-k-preserved
loop-k-preserved c =
    c.in_ok-push.ensures.items
    ∙ ap (λ (x : ℕ). c.loop-k.to.items ++ x ∷ []) c.slot.ensures
    ∙ ap (λ (xs : List ℕ). xs ++ slice_index c.args.env.now (c.args.first + c.loop-k.k) ∷ []) c.loop-k.invariant
    ∙ sym (run_more c.args.env.now c.args.first c.loop-k.k)

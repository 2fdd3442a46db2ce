use Rattle.std.proofs.Common.{◌∙◌, ◌+◌, ℕ, List, ◌++◌, [], ◌∷◌, sym, ap, add-one}
use Rattle.vs_design.specs.Values.{count_from}
use Rattle.vs_values.proofs.Named.{count_more}
use Rattle.vs_values.proofs.names.numbers.Goals as goal

pub loop-k-preserved : goal.loop-k-preserved
loop-k-preserved c =
    c.in_ok-push.ensures.items
    ∙ ap (λ (xs : List ℕ). xs ++ (c.args.first + c.loop-k.k) ∷ []) c.loop-k.invariant
    ∙ sym (ap (count_from c.args.first) (add-one c.loop-k.k) ∙ count_more c.args.first c.loop-k.k)

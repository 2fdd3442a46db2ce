use Rattle.std.proofs.Common.{◌∙◌, ◌++◌, [], ◌∷◌, List, ℕ, sym, ap, take}
use Rattle.vs_values.specs.Constants.{constant_slots}
use Rattle.vs_values.proofs.Constants.{constants_more}
use Rattle.vs_values.proofs.slots.constant_slots.Goals as goal

pub loop-n-preserved : goal.loop-n-preserved
loop-n-preserved c =
    c.in_ok-push.ensures.items
    ∙ ap (λ (xs : List ℕ). xs ++ c.constant_slot.result ∷ []) c.loop-n.invariant
    ∙ ap (λ (s : ℕ). constant_slots (take c.loop-n.n c.args.bits) ++ s ∷ []) c.constant_slot.ensures
    ∙ sym (constants_more c.args.bits c.loop-n.n c.get.result c.get.ensures)

use Rattle.std.proofs.Common.{◌∷◌, ◌++◌, [], sym, ap, ◌∙◌}
use Rattle.std.proofs.lemmas.List.{append-nil}
use Rattle.vs_design.specs.Refusals.{least}
use Rattle.vs_block.proofs.Latching.{latching_some, latching_none}
use Rattle.vs_block.proofs.functions.with_function.Goals as goal

pub returns-then-broken : goal.returns-then-broken
returns-then-broken c x is places h =
    c.with_place.ensures places h ∙ ap (λ n. least (places ++ n ∷ [])) (c.place.ensures x is) ∙ ap (λ ns. least (places ++ ns)) (sym (latching_some x (sym (c.in_ok-broken.ensures x is) ∙ c.if-broken.true)))

pub returns-else-broken : goal.returns-else-broken
returns-else-broken c x is places h = h ∙ ap least (sym (append-nil places)) ∙ ap (λ ns. least (places ++ ns)) (sym (latching_none x (sym (c.in_ok-broken.ensures x is) ∙ c.if-broken.false)))

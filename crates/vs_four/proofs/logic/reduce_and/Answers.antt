use Rattle.std.proofs.Common.{◌==◌, sym, ap, ap₂, ◌∙◌}
use Rattle.std.proofs.lemmas.Bool.{eq-eqb, ne_eqb}
use Rattle.vs_four.specs.Logic.{reduce_and}
use Rattle.vs_four.proofs.PlanesLemmas.{operand}
use Rattle.vs_four.proofs.Reductions.{conjunction, reduce_and-planes}
use Rattle.vs_four.proofs.logic.reduce_and.Goals as goal

pub returns-then-a-ones : goal.returns-then-a-ones
returns-then-a-ones c =
    let a = operand _ _ _ _ c.a.view_is c.a.invariant in
    let n = c.a.inside.len in let v = c.a.inside.value in let u = c.a.inside.unknown in
    sym (sym (ap reduce_and a.planes) ∙ reduce_and-planes n v u a.value_below a.unknown_below ∙ ap (λ p. conjunction p (u == 0)) (ne_eqb _ _ (λ e. c.if-a-ones.true (e ∙ sym c.ones.ensures))))

pub returns-then-a-ne0 : goal.returns-then-a-ne0
returns-then-a-ne0 c =
    let a = operand _ _ _ _ c.a.view_is c.a.invariant in
    let n = c.a.inside.len in let v = c.a.inside.value in let u = c.a.inside.unknown in
    sym (sym (ap reduce_and a.planes) ∙ reduce_and-planes n v u a.value_below a.unknown_below ∙ ap₂ conjunction (eq-eqb _ _ (c.if-a-ones.false ∙ c.ones.ensures)) (ne_eqb _ _ c.if-a-ne0.true))

pub returns-else-a-ne0 : goal.returns-else-a-ne0
returns-else-a-ne0 c =
    let a = operand _ _ _ _ c.a.view_is c.a.invariant in
    let n = c.a.inside.len in let v = c.a.inside.value in let u = c.a.inside.unknown in
    sym (sym (ap reduce_and a.planes) ∙ reduce_and-planes n v u a.value_below a.unknown_below ∙ ap₂ conjunction (eq-eqb _ _ (c.if-a-ones.false ∙ c.ones.ensures)) (eq-eqb _ _ c.if-a-ne0.false))

use Rattle.std.proofs.Common.{◌==◌, sym, ap, ap₂, ◌∙◌}
use Rattle.std.proofs.lemmas.Bool.{eq-eqb, ne_eqb}
use Rattle.vs_four.specs.Logic.{reduce_or}
use Rattle.vs_four.proofs.PlanesLemmas.{operand}
use Rattle.vs_four.proofs.Reductions.{disjunction, reduce_or-planes}
use Rattle.vs_four.proofs.logic.reduce_or.Goals as goal

pub returns-then-without-ne0 : goal.returns-then-without-ne0
returns-then-without-ne0 c =
    let a = operand _ _ _ _ c.a.view_is c.a.invariant in
    let n = c.a.inside.len in let v = c.a.inside.value in let u = c.a.inside.unknown in
    sym (sym (ap reduce_or a.planes) ∙ reduce_or-planes n v u a.value_below a.unknown_below ∙ ap (λ p. disjunction p (u == 0)) (ne_eqb _ _ (λ e. c.if-without-ne0.true (c.without.ensures.value ∙ e))))

pub returns-then-a-ne0 : goal.returns-then-a-ne0
returns-then-a-ne0 c =
    let a = operand _ _ _ _ c.a.view_is c.a.invariant in
    let n = c.a.inside.len in let v = c.a.inside.value in let u = c.a.inside.unknown in
    sym (sym (ap reduce_or a.planes) ∙ reduce_or-planes n v u a.value_below a.unknown_below ∙ ap₂ disjunction (eq-eqb _ _ (sym c.without.ensures.value ∙ c.if-without-ne0.false)) (ne_eqb _ _ c.if-a-ne0.true))

pub returns-else-a-ne0 : goal.returns-else-a-ne0
returns-else-a-ne0 c =
    let a = operand _ _ _ _ c.a.view_is c.a.invariant in
    let n = c.a.inside.len in let v = c.a.inside.value in let u = c.a.inside.unknown in
    sym (sym (ap reduce_or a.planes) ∙ reduce_or-planes n v u a.value_below a.unknown_below ∙ ap₂ disjunction (eq-eqb _ _ (sym c.without.ensures.value ∙ c.if-without-ne0.false)) (eq-eqb _ _ c.if-a-ne0.false))

use Rattle.std.proofs.Common.{count_ones, sym, ap, ◌∙◌}
use Rattle.std.proofs.lemmas.Bool.{eq-eqb, ne_eqb}
use Rattle.vs_four.specs.Tables.{of_bool}
use Rattle.vs_four.specs.Logic.{reduce_xor}
use Rattle.vs_four.proofs.PlanesLemmas.{operand}
use Rattle.vs_four.proofs.Reductions.{parity, reduce_xor-planes}
use Rattle.vs_four.proofs.logic.reduce_xor.Goals as goal

pub returns-then-a-ne0 : goal.returns-then-a-ne0
returns-then-a-ne0 c =
    let a = operand _ _ _ _ c.a.view_is c.a.invariant in
    let n = c.a.inside.len in let v = c.a.inside.value in let u = c.a.inside.unknown in
    sym (sym (ap reduce_xor a.planes) ∙ reduce_xor-planes n v u a.value_below a.unknown_below ∙ ap (parity (count_ones v)) (ne_eqb _ _ c.if-a-ne0.true))

pub returns-then-a-eq1 : goal.returns-then-a-eq1
returns-then-a-eq1 c =
    let a = operand _ _ _ _ c.a.view_is c.a.invariant in
    let n = c.a.inside.len in let v = c.a.inside.value in let u = c.a.inside.unknown in
    sym (sym (ap reduce_xor a.planes) ∙ reduce_xor-planes n v u a.value_below a.unknown_below ∙ ap (parity (count_ones v)) (eq-eqb _ _ c.if-a-ne0.false) ∙ ap of_bool (eq-eqb _ _ c.if-a-eq1.true))

pub returns-else-a-eq1 : goal.returns-else-a-eq1
returns-else-a-eq1 c =
    let a = operand _ _ _ _ c.a.view_is c.a.invariant in
    let n = c.a.inside.len in let v = c.a.inside.value in let u = c.a.inside.unknown in
    sym (sym (ap reduce_xor a.planes) ∙ reduce_xor-planes n v u a.value_below a.unknown_below ∙ ap (parity (count_ones v)) (eq-eqb _ _ c.if-a-ne0.false) ∙ ap of_bool (ne_eqb _ _ c.if-a-eq1.false))

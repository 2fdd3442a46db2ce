use Rattle.std.proofs.Common.{ℕ, Bool, true, false, not, ◌||◌, List, ap, ◌∙◌, subst}
use Rattle.vs_grammar.specs.Trees.{expr_place}
use Rattle.vs_ast.specs.Views as view
use Rattle.vs_const.specs.Meanings.{Means}
use Rattle.vs_const.specs.Expressions.{typed}
use Rattle.vs_elaborated.specs.Targets.{meant_signal, target_base}
use Rattle.vs_bodies.specs.declared.told.Told.{Told}
use Rattle.vs_bodies.specs.Told.{broken, joined}
use Rattle.vs_bodies.proofs.TargetParts.{bit_part_told, bit_told_of, word_told}
use Rattle.vs_bodies.proofs.targets.bit_told.Goals as goal

pub returns-in_ok-a-in-Memory : goal.returns-in_ok-a-in-Memory
returns-in_ok-a-in-Memory g c =
    let find = g.E.Env.names c.args.env.now in
    let n = c.args.name.now in
    let p = c.args.procedural in
    let e = view.expr c.args.index.now in
    let i = λ (b : Bool). typed e find (b || not p) in
    let means : Means c.find-named.result (find n.text) = subst (λ (b : List ℕ). Means c.find-named.result (find b)) c.as_slice.ensures c.find-named.ensures in
    c.behind.ensures ∙ ap (λ (z : Told). joined (broken c.word_fault-fault.result 0) z) c.broken.ensures
    ∙ word_told p n.place c.find-named.result c.in-Memory.s (find n.text) (expr_place e) i c.in_ok-a-in-Memory.a c.word_fault-fault.result c.in-Memory.is means c.word_fault-fault.ensures c.in_ok-a-in-Memory.ensures

pub returns-in_ok-found-in_default : goal.returns-in_ok-found-in_default
returns-in_ok-found-in_default g c =
    let find = g.E.Env.names c.args.env.now in
    let n = c.args.name.now in
    let p = c.args.procedural in
    let e = view.expr c.args.index.now in
    let i = λ (b : Bool). typed e find (b || not p) in
    let means : Means c.find-named.result (find n.text) = subst (λ (b : List ℕ). Means c.find-named.result (find b)) c.as_slice.ensures c.find-named.ensures in
    bit_told_of p n.place c.find-named.result (find n.text) (expr_place e) i c.behind-in_default.result c.in_default.not-Memory means
    (c.behind-in_default.ensures ∙ ap (λ (z : Told). joined (broken c.base_of-base.result.fault 0) z) c.broken-in_default.ensures
    ∙ bit_part_told (meant_signal (find n.text)) (target_base p n.place true (find n.text)) (i false) c.base_of-base.result c.in_ok-found-in_default.found.said c.bit_depth-depth.result (c.base_of-base.ensures (find n.text) means) c.in_ok-found-in_default.ensures.finds.checks c.bit_depth-depth.ensures)

use Rattle.std.proofs.Common.{ℕ, Bool, not, ◌||◌, List, Option, ap, ◌∙◌, subst}
use Rattle.vs_grammar.specs.Trees.{expr_place}
use Rattle.vs_four.specs.declared.Range.{Range}
use Rattle.vs_ast.specs.Views as view
use Rattle.vs_const.specs.declared.rules.Rule.{Rule}
use Rattle.vs_const.specs.Faults.{fault, least}
use Rattle.vs_const.specs.Meanings.{Means}
use Rattle.vs_const.specs.Expressions.{typed, taken_by}
use Rattle.vs_const.specs.Selects.{word_range, is_array}
use Rattle.vs_bodies.specs.declared.told.Told.{Told}
use Rattle.vs_bodies.specs.Told.{broken, joined}
use Rattle.vs_bodies.proofs.TargetParts.{part_of_word_told, further_told_of}
use Rattle.vs_bodies.proofs.targets.further_told.Goals as goal

pub returns-in_ok-bits-in-Memory : goal.returns-in_ok-bits-in-Memory
returns-in_ok-bits-in-Memory g c =
    let find = g.E.Env.names c.args.env.now in
    let n = c.args.name.now in
    let p = c.args.procedural in
    let e = view.expr c.args.address.now in
    let i = λ (b : Bool). typed e find (b || not p) in
    let take = λ (r : Option Range). taken_by r (view.select c.args.part.now) find (not p) in
    let means : Means c.find-named.result (find n.text) = subst (λ (b : List ℕ). Means c.find-named.result (find b)) c.as_slice.ensures c.find-named.ensures in
    c.behind-in-Memory.ensures ∙ ap (λ (z : Told). joined (broken c.word_fault-written.result 0) z) c.behind.ensures
    ∙ ap (λ (z : Told). joined (broken c.word_fault-written.result 0) (joined (broken c.fault_if-scalar.result 0) z)) (c.with-indices.ensures ∙ ap (λ (z : Told). joined z c.broken-in-Memory.result) c.broken.ensures ∙ ap (λ (z : Told). joined (broken c.in_ok-a-in-Memory.a.flaws.first c.in_ok-a-in-Memory.a.depth) z) c.broken-in-Memory.ensures)
    ∙ part_of_word_told p n.place c.find-named.result c.in-Memory.s (find n.text) (expr_place e) i take c.in_ok-a-in-Memory.a c.in_ok-bits-in-Memory.bits c.word_fault-written.result c.fault_if-scalar.result c.is_scalar.result
    c.in-Memory.is means c.word_fault-written.ensures c.is_scalar.ensures c.fault_if-scalar.ensures c.in_ok-a-in-Memory.ensures c.in_ok-bits-in-Memory.ensures

pub returns-in_default : goal.returns-in_default
returns-in_default g c =
    let find = g.E.Env.names c.args.env.now in
    let n = c.args.name.now in
    let p = c.args.procedural in
    let m = find n.text in
    let means : Means c.find-named.result m = subst (λ (b : List ℕ). Means c.find-named.result (find b)) c.as_slice.ensures c.find-named.ensures in
    further_told_of p n.place c.find-named.result m (expr_place (view.expr c.args.address.now)) (typed (view.expr c.args.address.now) find (is_array m || not p)) (taken_by (word_range m) (view.select c.args.part.now) find (not p)) c.broken-in_default.result c.in_default.not-Memory means
    (c.broken-in_default.ensures ∙ ap (λ f. broken f 0) (c.fault_at.ensures ∙ ap (λ (r : Rule). least (fault r n.place)) (c.unwritten_rule.ensures m means)))

use Rattle.std.proofs.Common.{◌||◌, ◌≡◌, ℕ, true, not, List, Option, IfOk, sym, ap, ◌∙◌, subst}
use Rattle.vs_four.specs.declared.Range.{Range}
use Rattle.vs_grammar.specs.Trees.{expr_place}
use Rattle.vs_ast.specs.declared.expressions.Expr.{Expr}
use Rattle.vs_ast.specs.declared.expressions.Select.{Select}
use Rattle.vs_ast.specs.Views as view
use Rattle.vs_const.specs.Checks.{ChecksTaken}
use Rattle.vs_const.specs.Meanings.{Means, steady}
use Rattle.vs_const.specs.Expressions.{typed, taken_by}
use Rattle.vs_const.specs.Selects.{Taken, slice_taken, first_names, first_needed, word_range, is_array}
use Rattle.vs_elaborated.specs.Targets.{meant_signal, target_base, bit_target, further_target, selected_target}
use Rattle.vs_bodies.specs.declared.told.Told.{Told}
use Rattle.vs_bodies.specs.Told.{broken, joined, told_target}
use Rattle.vs_bodies.proofs.TargetParts.{part_told}
use Rattle.vs_bodies.proofs.targets.selected_told.Goals as goal

pub returns-in-Whole : goal.returns-in-Whole
returns-in-Whole g c =
    let find = g.E.Env.names c.args.env.now in
    let name = view.name c.args.name.now in
    let means : Means c.find-named.result (find name.bytes) = subst (λ (b : List ℕ). Means c.find-named.result (find b)) c.as_slice.ensures c.find-named.ensures in
    c.broken.ensures ∙ ap (λ f. broken f 0) (c.base_of.ensures (find name.bytes) means).fault
    ∙ ap (λ (s : Select). told_target (selected_target (view.select s) name find c.args.procedural)) (sym c.in-Whole.is)

pub returns-in-Bit : goal.returns-in-Bit
returns-in-Bit g c =
    let find = g.E.Env.names c.args.env.now in
    let name = view.name c.args.name.now in
    let p = c.args.procedural in
    subst (λ (s : Select). IfOk c.bit_told.result (λ (w : Told). w ≡ told_target (selected_target (view.select s) name find p))) (sym c.in-Bit.is)
    (subst (λ (e : Expr). IfOk c.bit_told.result (λ (w : Told). w ≡ told_target (bit_target p name.place (find name.bytes) (expr_place (view.expr e)) (typed (view.expr e) find (is_array (find name.bytes) || not p))))) c.deref.ensures c.bit_told.ensures)

pub returns-in_ok-bits-in-Slice : goal.returns-in_ok-bits-in-Slice
returns-in_ok-bits-in-Slice g c =
    let find = g.E.Env.names c.args.env.now in
    let name = view.name c.args.name.now in
    let p = c.args.procedural in
    let m = find name.bytes in
    let means : Means c.find-named-in-Slice.result m = subst (λ (b : List ℕ). Means c.find-named-in-Slice.result (find b)) c.as_slice-in-Slice.ensures c.find-named-in-Slice.ensures in
    let base = c.base_of-base.ensures m means in
    let b = target_base p name.place true m in
    let e = c.in-Slice.left.value in
    let f = c.in-Slice.right.value in
    let k = view.slice_kind c.in-Slice.kind in
    let bits = λ (r : Option Range) (x y : Expr). slice_taken r c.in-Slice.bracket k (expr_place (view.expr x)) (typed (view.expr x) (first_names k find) (first_needed k (not p))) (expr_place (view.expr y)) (typed (view.expr y) (steady find) true) in
    let taken = bits b.range e f in
    let same : bits c.base_of-base.result.range c.deref-in-Slice.result.now c.deref-in-Slice-2.result.now ≡ taken =
    ap (λ (r : Option Range). bits r c.deref-in-Slice.result.now c.deref-in-Slice-2.result.now) base.range
    ∙ ap (λ (x : Expr). bits b.range x c.deref-in-Slice-2.result.now) c.deref-in-Slice.ensures
    ∙ ap (λ (x : Expr). bits b.range e x) c.deref-in-Slice-2.ensures
    in
    c.behind.ensures ∙ ap (λ (z : Told). joined (broken c.base_of-base.result.fault 0) z) c.broken-in-Slice.ensures
    ∙ part_told (meant_signal m) b taken c.base_of-base.result c.in_ok-bits-in-Slice.bits base (subst (λ (t : Taken). ChecksTaken c.in_ok-bits-in-Slice.bits t) same c.in_ok-bits-in-Slice.ensures)
    ∙ ap (λ (s : Select). told_target (selected_target (view.select s) name find p)) (sym c.in-Slice.is)

pub returns-in-Word : goal.returns-in-Word
returns-in-Word g c =
    let find = g.E.Env.names c.args.env.now in
    let name = view.name c.args.name.now in
    let p = c.args.procedural in
    let m = find name.bytes in
    let said = λ (e : Expr) (s : Select). told_target (further_target p name.place m (expr_place (view.expr e)) (typed (view.expr e) find (is_array m || not p)) (taken_by (word_range m) (view.select s) find (not p))) in
    subst (λ (s : Select). IfOk c.further_told.result (λ (w : Told). w ≡ told_target (selected_target (view.select s) name find p))) (sym c.in-Word.is)
    (subst (λ (s : Select). IfOk c.further_told.result (λ (w : Told). w ≡ said c.in-Word.address.value s)) c.deref-in-Word-2.ensures
    (subst (λ (e : Expr). IfOk c.further_told.result (λ (w : Told). w ≡ said e c.deref-in-Word-2.result.now)) c.deref-in-Word.ensures c.further_told.ensures))

use Rattle.std.proofs.Common.{◌≡◌, ◌∙◌, ℕ, List, Vec, Global, ap, subst, refl, inl}
use Rattle.std.proofs.lemmas.Result.{IfOk-weaker}
use Rattle.vs_four.specs.Selects.{Part}
use Rattle.vs_values.specs.Constants.{AreConstant, constant_bits, extended_slots, selected_slots}
use Rattle.vs_values.specs.Made.{IsSelect}
use Rattle.vs_values.proofs.sources.chosen_bits.Goals as goal

pub returns-then-are_constant : goal.returns-then-are_constant
returns-then-are_constant c =
    let part : Part = record { range = c.args.range; up = c.args.up; width = c.args.width } in
    let w = c.args.context.width in
    let s = c.args.context.signed in
    let x = c.as_slice-then-are_constant.result.now in
    let y = c.as_slice-then-are_constant-2.result.now in
    let f = λ (a : List ℕ) (b : List ℕ). extended_slots w s (selected_slots part c.args.of_index a (constant_bits b)) in
    let fixed : AreConstant c.args.index.items = subst AreConstant c.as_slice.ensures.value (c.are_constant.ensures.0 c.if-are_constant.true) in
    IfOk-weaker c.fixed_select.result
    (λ (to : Vec ℕ Global). to.items ≡ f x y)
    (λ (to : Vec ℕ Global). IsSelect part c.args.of_index w s c.args.from.items c.args.index.items c.args.code.now c.args.code.now to.items)
    (λ to h. inl (fixed, record { same = refl; are = h ∙ ap (λ (a : List ℕ). f a y) c.as_slice-then-are_constant.ensures.value ∙ ap (f c.args.from.items) c.as_slice-then-are_constant-2.ensures.value }))
    c.fixed_select.ensures

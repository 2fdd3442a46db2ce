use Rattle.std.proofs.Common.{◌≡◌, ℕ, ◌-◌, ◌%◌, ◌^◌, map, bit_and, bit_or, sym, ap, ap₂, ◌∙◌}
use Rattle.std.proofs.lemmas.Int.{to_z-of_z}
use mir.Syntax.{w128}
use mir.Val.{to_z, of_z}
use Rattle.vs_four.specs.Planes.{bits_of_planes}
use Rattle.vs_four.specs.Selects.{below, indices_up, write_places}
use Rattle.vs_four.proofs.PlanesLemmas.{operand}
use Rattle.vs_four.proofs.PlaneParts.{mod-planes}
use Rattle.vs_four.proofs.ShiftLemmas.{word_fits}
use Rattle.vs_four.proofs.SelectLemmas.{places, places_up}
use Rattle.vs_four.proofs.SelectPlanes.{up_by, laid, laid-planes, laid_words, moved_is}
use Rattle.vs_four.proofs.selects.overlaid.Goals as goal

pub returns : goal.returns
returns c =
    let under = operand _ _ _ _ c.under.view_is c.under.invariant in
    let over = operand _ _ _ _ c.over.view_is c.over.invariant in
    let n = c.under.inside.len in let v = c.under.inside.value in let u = c.under.inside.unknown in
    let w = c.over.inside.len in let vv = c.over.inside.value in let vu = c.over.inside.unknown in
    let i = c.args.start in
    let same : to_z w128 (of_z w128 i) ≡ i = to_z-of_z w128 i c.ranges.start in
    let taken : c.moved-taken.result ≡ up_by i (2 ^ w - 1) % 2 ^ 64 =
    moved_is c.ones.result c.moved-taken.result i c.ones.type_inv (λ k e. c.moved-taken.ensures.up k (same ∙ e)) (λ k e. c.moved-taken.ensures.down k (same ∙ e)) ∙ ap (λ (k : ℕ). up_by i k % 2 ^ 64) c.ones.ensures in
    let value : c.moved.result ≡ up_by i vv % 2 ^ 64 = moved_is vv c.moved.result i (word_fits w vv over.most over.value_below) (λ k e. c.moved.ensures.up k (same ∙ e)) (λ k e. c.moved.ensures.down k (same ∙ e)) in
    let unknown : c.moved-2.result ≡ up_by i vu % 2 ^ 64 = moved_is vu c.moved-2.result i (word_fits w vu over.most over.unknown_below) (λ k e. c.moved-2.ensures.up k (same ∙ e)) (λ k e. c.moved-2.ensures.down k (same ∙ e)) in
    ap₂ (bits_of_planes n)
    (ap₂ bit_and (ap (λ k. bit_or k c.moved.result) c.without.ensures.value) c.ones-kept.ensures ∙ laid_words n w i v vv c.moved-taken.result c.moved.result under.most taken value)
    (ap₂ bit_and (ap (λ k. bit_or k c.moved-2.result) c.without-2.ensures.value) c.ones-kept.ensures ∙ laid_words n w i u vu c.moved-taken.result c.moved-2.result under.most taken unknown)
    ∙ mod-planes n (laid w i v vv) (laid w i u vu)
    ∙ laid-planes n w i v u vv vu over.value_below over.unknown_below
    ∙ ap₂ (λ a b. write_places a (places n i w) b) under.planes over.planes
    ∙ ap (λ ps. write_places c.args.under ps c.args.over)
    (sym (places_up n i w) ∙ ap₂ (λ l m. map (below l) (indices_up i m)) (sym under.count) (sym over.count))

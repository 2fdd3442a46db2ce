use Rattle.std.proofs.Common.{◌≡◌, ℕ, ◌+◌, true, false, List, Bor, take, map, Option, option_map, ap, sym, subst, ◌∙◌}
use Rattle.std.proofs.lemmas.List.{take_all}
use Rattle.vs_ast.specs.Views as view
use Rattle.vs_ast.specs.declared.modules.Module.{Module}
use Rattle.vs_tops.specs.Tops.{is_instantiated}
use Rattle.vs_tops.proofs.Only.{top_level_in, AreOnly, only_is, only_passed, only_found, some_seen, none_seen, two_found_in}
use Rattle.vs_tops.proofs.tops.own_top.Goals as goal
use Rattle.vs_tops.proofs.tops.own_top.Goals.{then-not-contains+else-is_some, else-not-contains}

abbrev bytes : Bor (List ℕ) → List ℕ
bytes t = t.now

pub returns-then-is_some : goal.returns-then-is_some
returns-then-is_some c =
    let source = view.source c.args.source.now in
    let m = c.of-item.result in
    let named : is_instantiated source m.name.text ≡ false =
    ap (is_instantiated source) (sym c.as_slice-name.ensures) ∙ sym (c.in_ok-names.ensures c.as_slice-name.result.now) ∙ sym c.contains.ensures ∙ c.if-not-contains.true in
    two_found_in source c.deref-of-items.result.now c.loop-of.of-index m (option_map bytes c.loop-of.top) (some_seen bytes c.loop-of.top (sym c.is_some.ensures ∙ c.if-is_some.true))
    (sym (ap (λ (xs : List Module). map view.module_tree xs) c.deref-of-items.ensures.value)) c.loop-of-test.true c.of-item.is named c.loop-of.invariant

pub loop-of-preserved : goal.loop-of-preserved
loop-of-preserved c =
    let source = view.source c.args.source.now in
    let ms = c.deref-of-items.result.now in
    let i = c.loop-of.of-index in
    let m = c.of-item.result in
    let known : is_instantiated source m.name.text ≡ c.contains.result =
    ap (is_instantiated source) (sym c.as_slice-name.ensures) ∙ sym (c.in_ok-names.ensures c.as_slice-name.result.now) ∙ sym c.contains.ensures in
    elim c.if-not-contains.branch [
      | then-not-contains+else-is_some w ↦
          subst (λ (o : Option (Bor (List ℕ))). AreOnly (option_map bytes o) (top_level_in source (take (i + 1) ms))) (sym w.top-is)
          (only_found source ms i m c.as_slice-name.result.now c.loop-of-test.true c.of-item.is (known ∙ w.if-not-contains.true) c.as_slice-name.ensures
          (subst (λ (o : Option (List ℕ)). AreOnly o (top_level_in source (take i ms))) (sym (none_seen bytes c.loop-of.top (sym w.is_some.ensures ∙ w.if-is_some.false))) c.loop-of.invariant))
      | else-not-contains w ↦
          subst (λ (o : Option (Bor (List ℕ))). AreOnly (option_map bytes o) (top_level_in source (take (i + 1) ms))) (sym w.top-is)
          (only_passed source ms i m (option_map bytes c.loop-of.top) c.loop-of-test.true c.of-item.is (known ∙ w.if-not-contains.false) c.loop-of.invariant)
    ]

pub returns : goal.returns
returns c =
    let source = view.source c.args.source.now in
    let o = option_map bytes c.loop-of.top in
    only_is source c.deref-of-items.result.now o (sym (ap (λ (xs : List Module). map view.module_tree xs) c.deref-of-items.ensures.value))
    (subst (λ (xs : List Module). AreOnly o (top_level_in source xs)) (take_all c.loop-of.of-index c.deref-of-items.result.now c.loop-of-test.false) c.loop-of.invariant)

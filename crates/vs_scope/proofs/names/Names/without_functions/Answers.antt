use Rattle.std.proofs.Common.{◌≡◌, ℕ, ◌≤◌, min, arith, None, if◌then◌else◌, refl, sym, ap, ◌∙◌}
use Rattle.vs_maps.specs.Maps.{pair, with_value}
use Rattle.vs_maps.specs.MapViews.{pairs}
use Rattle.vs_scope.specs.declared.names.Declared.TheVariants as states
use Rattle.vs_scope.proofs.FunctionsAgain.{found_there, part_first, value_there}
use Rattle.vs_scope.proofs.names.Names.without_functions.Goals as goal
use Rattle.vs_scope.proofs.names.Names.without_functions.Goals.{in-Some+in_ok-put, then-is_function, else-is_function, in_default}

pub loop-i-preserved : goal.loop-i-preserved
loop-i-preserved c =
    let ps = pairs c.args.self.now.map in
    let at = pair c.pair_at.result.0.now c.pair_at.result.1.now in (
      refl,
      refl,
      elim c.match-copied.branch [
        | in-Some+in_ok-put w ↦
            ap pairs w.map-is ∙ w.in_ok-put.ensures.put
            ∙ ap (with_value c.pair_at.result.0.now _) c.loop-i.invariant.2
            ∙ found_there ps c.loop-i.i at _ c.get.ensures.distinct c.pair_at.ensures (sym c.get.ensures.value ∙ sym c.copied.ensures ∙ w.in-Some.is) _
            (elim w.if-is_function.branch [
              | then-is_function v ↦ v.declared-is ∙ ap (λ b. if b then states.Function None else w.in-Some.field-0.declared) (sym (sym w.is_function.ensures ∙ v.if-is_function.true))
              | else-is_function v ↦ v.declared-is ∙ ap (λ b. if b then states.Function None else w.in-Some.field-0.declared) (sym (sym w.is_function.ensures ∙ v.if-is_function.false))
            ])
        | in_default w ↦ absurd (w.in_default.not-Some at.value (c.copied.ensures ∙ c.get.ensures.value ∙ value_there ps c.loop-i.i at c.get.ensures.distinct c.pair_at.ensures))
      ],
    )

pub returns : goal.returns
returns c = λ outer.
    let whole : c.min-plain.result ≡ c.loop-i.i = both c.loop-i.i c.min-plain.result c.loop-i-test.false c.loop-i.auto.i-end in
    part_first outer _ c.args.self.now c.loop-i.i c.loop-i.invariant.2 (sym whole ∙ c.min-plain.ensures ∙ ap (min c.args.self.now.plain) c.len.ensures) refl refl c.new-2.ensures.items whole
  where
    both : (m n : ℕ) → n ≤ m → m ≤ n → n ≡ m
    both m n h k = omega arith

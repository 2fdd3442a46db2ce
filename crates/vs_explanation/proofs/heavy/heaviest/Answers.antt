use Rattle.std.proofs.Common.{◌≡◌, ◌+◌, ◌-◌, None, drop, sym, ap, ◌∙◌, arith}
use Rattle.vs_explanation.specs.Heavy as spec
use Rattle.vs_explanation.proofs.HeavySteps.{kept_more, none_from, pairs_from}
use Rattle.vs_explanation.proofs.heavy.heaviest.Goals as goal

pub loop-left-init : goal.loop-left-init
loop-left-init c =
    let bytes = c.args.bytes.now in
    let weights = c.args.weights.now in
    record { inside = omega arith; looked_at = c.new-kept.ensures.items ∙ ap spec.heaviest (sym (none_from bytes weights c.requires)) }

pub loop-left-preserved : goal.loop-left-preserved
loop-left-preserved c =
    let bytes = c.args.bytes.now in
    let weights = c.args.weights.now in
    let left = c.loop-left.left in
    let here = left - 1 in
    let on : here + 1 ≡ left = omega (arith, c.loop-left-test.true) in
    let first = pairs_from bytes weights here None 0 c.requires (omega (arith, c.loop-left-test.true, c.loop-left.invariant.inside)) in
    record {
      inside = omega (arith, c.loop-left.invariant.inside);
      looked_at = kept_more _ (drop (here + 1) (spec.paired bytes weights)) (drop here (spec.paired bytes weights)) c.loop-left.kept.items c.keep.new.kept.items first
          (c.loop-left.invariant.looked_at ∙ ap (λ n. spec.heaviest (drop n (spec.paired bytes weights))) (sym on)) c.in_ok-keep.ensures;
    }

use Rattle.std.proofs.Common.{List, ℕ, length, Option, None, option_map, ap, subst}
use Rattle.vs_explainer.specs.Heavy.{AreWeighed}
use Rattle.vs_explainer.proofs.Sights.{as_long}
use Rattle.vs_explainer.proofs.heavy.weighed_view.Goals as goal

pub returns-clause-view : goal.returns-clause-view
returns-clause-view c =
    let heavy = option_map (λ v. v.items) c.in_ok-heavy.heavy in (
      heavy,
      subst (λ (t : Option (List ℕ)). AreWeighed c.args.joined.text.items t heavy) c.top_bytes.ensures
          (subst (λ (t : List ℕ). AreWeighed t (option_map (λ n. n.now) c.top_bytes.result) heavy) c.as_slice.ensures.value c.in_ok-heavy.ensures),
      as_long _ _ _ _ None heavy None (ap (λ (t : List ℕ). length t) c.as_bytes.ensures),
    )

use Rattle.std.proofs.Common.{◌≡◌, List, ℕ, length, Option, None, option_map, ap, subst}
use Rattle.std.specs.Prelude.{MatchBool}
use Rattle.vs_reread.specs.Drawings.{IsDrawing}
use Rattle.vs_explainer.proofs.Sights.{as_long}
use Rattle.vs_explainer.proofs.looks.view_of.Goals as goal

pub returns-clause-view : goal.returns-clause-view
returns-clause-view c =
    let draws = c.args.draws in
    let drawn = c.in_ok-drawing.drawing in (
      drawn,
      subst (λ (t : Option (List ℕ)). MatchBool draws (IsDrawing c.args.joined.text.items t drawn) (drawn ≡ None)) c.top_bytes.ensures
          (subst (λ (t : List ℕ). MatchBool draws (IsDrawing t (option_map (λ n. n.now) c.top_bytes.result) drawn) (drawn ≡ None)) c.as_slice.ensures.value c.in_ok-drawing.ensures),
      as_long _ _ _ _ drawn None None (ap (λ (t : List ℕ). length t) c.as_bytes.ensures),
    )

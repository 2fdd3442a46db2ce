use Rattle.std.proofs.Common.{◌≡◌, ◌<◌, false, None, pos, sym, ap, ◌∙◌, arith}
use Rattle.std.specs.Prelude.{replicate}
use Rattle.std.proofs.lemmas.Bool.{cond-false}
use Rattle.vs_four.specs.Logic.{all_known}
use Rattle.vs_four.specs.Selects.{range_length}
use Rattle.vs_shape.proofs.PlaceSteps.{no_places, length-kept, kept_below}
use Rattle.vs_shape.proofs.places.places_of.Goals as goal

pub returns-else-is_known-clause-value : goal.returns-else-is_known-clause-value
returns-else-is_known-clause-value c =
    let width = ap (λ p. p.width) c.part-else-is_known.view_is in
    let unknown : all_known c.args.index ≡ false = sym c.is_known.ensures ∙ c.if-is_known.false in
    no_places (pos 0) c.part-else-is_known.inside.width ∙ ap (λ w. replicate w None) width ∙ sym (cond-false (all_known c.args.index) _ _ unknown)

pub returns-then-is_known-clause-length : goal.returns-then-is_known-clause-length
returns-then-is_known-clause-length c = length-kept _ _ c.part-then-is_known.inside.width ∙ ap (λ p. p.width) c.part-then-is_known.view_is

pub returns-then-is_known-clause-inside : goal.returns-then-is_known-clause-inside
returns-then-is_known-clause-inside c k n at = omega (arith, kept_below _ _ _ k n at, c.length.ensures, ap (λ p. range_length p.range) c.part.view_is)

pub returns-else-is_known-clause-length : goal.returns-else-is_known-clause-length
returns-else-is_known-clause-length c = length-kept _ _ c.part-else-is_known.inside.width ∙ ap (λ p. p.width) c.part-else-is_known.view_is

pub returns-else-is_known-clause-inside : goal.returns-else-is_known-clause-inside
returns-else-is_known-clause-inside c k n at = let none : n < 0 = kept_below _ _ _ k n at in absurd (omega arith)

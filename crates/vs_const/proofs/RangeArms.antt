-- A range by the numbers of its bounds, and which bits a select takes by them.
use Rattle.std.proofs.Common.{◌≡◌, ℕ, Option, subst}
use Rattle.vs_four.specs.declared.Range.{Range}
use Rattle.vs_grammar.specs.Trees as tree
use Rattle.vs_const.specs.declared.ranges.Numbered.{Numbered as NumberedOf}
use Rattle.vs_const.specs.declared.ranges.Bounds.{Bounds as BoundsOf}
use Rattle.vs_const.specs.declared.selects.Taken.{Taken as TakenOf}
use Rattle.vs_const.specs.Typed.{Typed, number_of}
use Rattle.vs_const.specs.Selects as spec
use Rattle.vs_const.specs.Selects.{bounds_of, slice_taken}
use Rattle.vs_const.specs.Checks.{ChecksNumber, ChecksBounds, ChecksTaken}

-- a range whose bounds begin at these places
pub range_arm : (most bracket lp rp p q : ℕ) (t u : Typed) (m n : NumberedOf) (r : BoundsOf) → p ≡ lp → q ≡ rp
    → ((t u : Typed) → ChecksNumber m (number_of p t) → ChecksNumber n (number_of q u) → ChecksBounds r (bounds_of most bracket p t q u))
    → ChecksNumber m (number_of lp t) → ChecksNumber n (number_of rp u) → ChecksBounds r (bounds_of most bracket lp t rp u)
range_arm most bracket lp rp p q t u m n r e h f =
    let P : ℕ → ℕ → Type 0 = λ c d. ChecksNumber m (number_of c t) → ChecksNumber n (number_of d u) → ChecksBounds r (bounds_of most bracket c t d u) in
    let at_left : P lp q = subst (λ c. P c q) e (f t u) in
    subst (λ d. P lp d) h at_left

-- the bits from one bound to the other
pub between_taken : (declared : Option Range) (bracket lp rp p q : ℕ) (t u : Typed) (m n : NumberedOf) (r : BoundsOf) (x : TakenOf) → p ≡ lp → q ≡ rp
    → ((t u : Typed) → ChecksNumber m (number_of p t) → ChecksNumber n (number_of q u) → ChecksBounds r (bounds_of 64 bracket p t q u))
    → ChecksNumber m (number_of lp t) → ChecksNumber n (number_of rp u)
    → ((place : ℕ) (b : spec.Bounds) → ChecksBounds r b → ChecksTaken x (spec.between declared bracket place b.range b.faults))
    → ChecksTaken x (slice_taken declared bracket tree.Between lp t rp u)
between_taken declared bracket lp rp p q t u m n r x e h f a b g = g lp (bounds_of 64 bracket lp t rp u) (range_arm 64 bracket lp rp p q t u m n r e h f a b)

use Rattle.std.proofs.Common.{ℕ, ◌<◌, ◌≤◌, List, length, get_or, subst, sym}
use Rattle.vs_level.specs.Graph.{IsCircle}
use Rattle.vs_level.proofs.Rings.{turned}
use Rattle.vs_level.proofs.turn.least_first.Goals as goal

pub returns : goal.returns
returns c = λ g r. subst (IsCircle g) (sym c.rotate_left.ensures.items) (turned g c.args.ring.items c.place_of_least-place.result (subst (λ zs. c.place_of_least-place.result < length zs) c.as_slice.ensures.value c.place_of_least-place.ensures.within) (subst (λ (zs : List ℕ). (i : ℕ) → i < length zs → get_or zs c.place_of_least-place.result 0 ≤ get_or zs i 0) c.as_slice.ensures.value c.place_of_least-place.ensures.least) r)

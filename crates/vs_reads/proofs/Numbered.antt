-- Processes by number.
use Rattle.std.proofs.Common.{◌≡◌, ℕ, zero, suc, ◌<◌, Bool, true, List, [], ◌∷◌, refl, ap, Some, length, arith}
use Rattle.std.specs.Prelude.{slice_get}
use Rattle.std.proofs.lemmas.Option.{slice_get_within}
use Rattle.vs_design.specs.Designs.{Process, process_place}
use Rattle.vs_design.specs.Levels.{at_number}
use Rattle.vs_design.specs.Refusals.{place_at}

same_some : (x y : Process) → Some x ≡ Some y → x ≡ y
same_some x y e = cc

pub number_at : (p : ℕ) (ps : List Process) (x : Process) (f : Process → Bool) → slice_get ps p ≡ Some x → at_number p ps f ≡ f x
number_at p [] x f h = cc
number_at zero (y ∷ ps) x f h = ap f (same_some y x h)
number_at (suc p) (y ∷ ps) x f h = number_at p ps x f h

pub at_is : (p : ℕ) (ps : List Process) (f : Process → Bool) → at_number p ps f ≡ true → (x : Process) × (slice_get ps p ≡ Some x) × (f x ≡ true)
at_is p [] f h = cc
at_is zero (x ∷ ps) f h = (x, refl, h)
at_is (suc p) (x ∷ ps) f h = at_is p ps f h

pub place_is : (ps : List Process) (p : ℕ) (x : Process) → slice_get ps p ≡ Some x → place_at ps p ≡ process_place x
place_is [] p x h = cc
place_is (y ∷ ps) zero x h = ap process_place (same_some y x h)
place_is (y ∷ ps) (suc p) x h = place_is ps p x h

-- there is a process of each number below the length
pub process_there : (ps : List Process) (p : ℕ) → p < length ps → (x : Process) × (slice_get ps p ≡ Some x)
process_there [] p h = absurd (omega (arith, h))
process_there (x ∷ ps) zero h = (x, refl)
process_there (x ∷ ps) (suc p) h = process_there ps p (omega (arith, h))

pub number_below : (ps : List Process) (p : ℕ) (f : Process → Bool) → at_number p ps f ≡ true → p < length ps
number_below ps p f h = let r = at_is p ps f h in slice_get_within ps p r.0 r.1

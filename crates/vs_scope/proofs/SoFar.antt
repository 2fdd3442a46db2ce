-- The first fault of a list, of which some are left.
use Rattle.std.proofs.Common.{◌≡◌, ℕ, suc, ◌<◌, ◌≤◌, List, [], ◌++◌, map, flat_map, length, get_or, drop, Option, Some, None, refl, sym, ap, ◌∙◌, subst}
use Rattle.vs_const.specs.declared.faults.Fault.{Fault}
use Rattle.vs_const.specs.Faults.{least, better}
use Rattle.vs_const.proofs.Least.{least_append}
pub use Rattle.vs_const.proofs.Least.{better_assoc}
use Rattle.vs_scope.specs.SoFar.{IsFirstSoFar}
use Rattle.vs_scope.proofs.Steps.{from_place, none_left}

pub better_none : (a : Option Fault) → better a None ≡ a
better_none None = refl
better_none (Some a) = refl

-- none was found
pub so_far_start : (all : List Fault) → IsFirstSoFar None all all
so_far_start all = record { first = refl }

-- some more
pub so_far_more : (one rest all : List Fault) (found mine sum : Option Fault) → IsFirstSoFar found (one ++ rest) all → mine ≡ least one → sum ≡ better found mine → IsFirstSoFar sum rest all
so_far_more one rest all found mine sum before m s = record {
  first =
      ap (λ (o : Option Fault). better o (least rest)) s ∙ better_assoc found mine (least rest) ∙ ap (λ (o : Option Fault). better found (better o (least rest))) m
      ∙ ap (better found) (sym (least_append one rest)) ∙ before.first;
}

-- none is left
pub so_far_end : (found : Option Fault) (all : List Fault) → IsFirstSoFar found [] all → found ≡ least all
so_far_end found all h = sym (better_none found) ∙ h.first

-- the next of a list
pub so_far_next : {A B : Type 0} (g : B → List Fault) (f : A → B) (xs : List A) (i : ℕ) (x : A) (all : List Fault) (found mine sum : Option Fault) → i < length xs → x ≡ get_or xs i x
    → IsFirstSoFar found (flat_map g (map f (drop i xs))) all → mine ≡ least (g (f x)) → sum ≡ better found mine → IsFirstSoFar sum (flat_map g (map f (drop (suc i) xs))) all
so_far_next g f xs i x all found mine sum h e before m s =
    so_far_more (g (f x)) (flat_map g (map f (drop (suc i) xs))) all found mine sum (subst (λ (r : List _). IsFirstSoFar found (flat_map g (map f r)) all) (from_place xs i x h e) before) m s

pub so_far_done : {A B : Type 0} (g : B → List Fault) (f : A → B) (xs : List A) (i : ℕ) (all : List Fault) (found : Option Fault) → length xs ≤ i → IsFirstSoFar found (flat_map g (map f (drop i xs))) all → found ≡ least all
so_far_done g f xs i all found h before = so_far_end found all (subst (λ (r : List _). IsFirstSoFar found (flat_map g (map f r)) all) (none_left xs i h) before)

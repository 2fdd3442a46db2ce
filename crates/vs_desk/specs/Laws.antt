-- Bytes put or taken in parts are put or taken as one, and places attached one behind the other are attached each by itself.
use Rattle.std.specs.Prelude.{◌≡◌, ◌≢◌, ◌⊎◌, ℕ, ◌+◌, ◌<◌, ◌≤◌, Bool, List, [], ◌∷◌, ◌++◌, length, slice_index_or, Some}
use Rattle.vs_desk.specs.declared.desk.Way.{Way}
use Rattle.vs_desk.specs.Desk.{Register, Contents, Told, Stays, FailsAlone, with_place, with_put, with_taken}
use Rattle.vs_desk.specs.Places.{with_places}

abbrev pub PutsNothing : Type 0
PutsNothing = (r : Register) (c : Contents) (place : ℕ) → with_put r c place [] ≡ c

abbrev pub PutsInParts : Type 0
PutsInParts = (r : Register) (c : Contents) (place : ℕ) (xs ys : List ℕ)
    → with_put r (with_put r c place xs) place ys ≡ with_put r c place (xs ++ ys)

abbrev pub TakesNothing : Type 0
TakesNothing = (c : Contents) (place : ℕ) → with_taken c place 0 ≡ c

abbrev pub TakesInParts : Type 0
TakesInParts = (c : Contents) (place m n : ℕ) → with_taken (with_taken c place m) place n ≡ with_taken c place (m + n)

-- places before the first one, and behind the last, are attached as they were
abbrev pub OtherPlacesStay : Type 0
OtherPlacesStay = (r : Register) (first : ℕ) (way : Way) (paths : List (List ℕ)) (p : ℕ)
    → (p < first) ⊎ (first + length paths ≤ p) → (with_places r first way paths).attached p ≡ r.attached p

-- each place is attached to its own path
abbrev pub EachPlaceIsAttached : Type 0
EachPlaceIsAttached = (r : Register) (first : ℕ) (way : Way) (paths : List (List ℕ)) (i : ℕ)
    → i < length paths → (with_places r first way paths).attached (first + i) ≡ Some (record { way = way; path = slice_index_or paths i [] })

-- one more path is attached at the next place
abbrev pub NextPlaceIsAttached : Type 0
NextPlaceIsAttached = (r : Register) (first : ℕ) (way : Way) (paths : List (List ℕ)) (path : List ℕ)
    → with_places r first way (paths ++ path ∷ []) ≡ with_place (with_places r first way paths) (first + length paths) way path

-- no call failed between the two: they tell the same of failed calls
pub record IsQuiet (old new : Register) : Type 0 where
  pub faults : new.faults ≡ old.faults
  pub losses : new.losses ≡ old.losses
  pub failed : new.failed ≡ old.failed
  pub asked : new.asked ≡ old.asked

-- attaching places tells of no failed call
abbrev pub NoCallFailed : Type 0
NoCallFailed = (r : Register) (first : ℕ) (way : Way) (paths : List (List ℕ)) → IsQuiet r (with_places r first way paths)

-- a call that failed alone, behind calls that changed nothing, or before them
abbrev pub StaysThenFails : Type 0
StaysThenFails = (tells : Bool) (old now new : Told tells) (place : ℕ) → Stays old now → FailsAlone now new place now.register.asked → FailsAlone old new place old.register.asked

abbrev pub FailsThenStays : Type 0
FailsThenStays = (tells : Bool) (old now new : Told tells) (place : ℕ) (asked : List ℕ) → FailsAlone old now place asked → Stays now new → FailsAlone old new place asked

-- of two calls that failed alone the later one is told
abbrev pub FailsAgain : Type 0
FailsAgain = (tells : Bool) (old now new : Told tells) (first second : ℕ) (asked : List ℕ) → first ≢ 0 → second ≢ 0
    → FailsAlone old now first asked → FailsAlone now new second now.register.asked → FailsAlone old new second asked

-- Places that are attached one behind the other.
use Rattle.std.proofs.Common.{◌≡◌, ℕ, true, inl, inr, ◌+◌, ◌<◌, ◌≤◌, List, [], length, take, refl, sym, ap, ◌∙◌, subst, arith}
use Rattle.std.specs.Prelude.{Option, IsSomeAnd}
use Rattle.std.proofs.lemmas.Bool.{cases_lt, false≢true}
use Rattle.std.proofs.lemmas.List.{take_more, length-take-le, get_or_past}
use Rattle.vs_desk.specs.declared.desk.Way.TheVariants.{Read}
use Rattle.vs_desk.specs.Desk.{Attachment, Register, with_place}
use Rattle.vs_desk.specs.Places.{stimulus_place}
use Rattle.vs_desk.specs.Laws.{OtherPlacesStay, EachPlaceIsAttached, NextPlaceIsAttached}
use Rattle.vs_stim.specs.Known.{Known}
use Rattle.vs_feed.specs.Lanes.{ended, lane_at, AreAttached}
use Rattle.vs_feed.specs.Opened.{path_at, with_lanes}

-- one more lane
pub with_lanes_more : NextPlaceIsAttached → (r : Register) (paths : List (List ℕ)) (lane : ℕ) → lane < length paths
    → with_lanes r (take (lane + 1) paths) ≡ with_place (with_lanes r (take lane paths)) (stimulus_place lane) Read (path_at paths lane)
with_lanes_more law r paths lane h =
    ap (with_lanes r) (take_more paths lane [] h)
    ∙ law r (stimulus_place 0) Read (take lane paths) (path_at paths lane)
    ∙ ap (λ n. with_place (with_lanes r (take lane paths)) (stimulus_place n) Read (path_at paths lane)) (length-take-le lane paths (omega arith))

-- the next lane's place, attached behind the others
pub next_attached : NextPlaceIsAttached → (r mid : Register) (paths : List (List ℕ)) (path : List ℕ) (lane : ℕ) → lane < length paths → mid ≡ with_lanes r (take lane paths)
    → path_at paths lane ≡ path → with_place mid (stimulus_place lane) Read path ≡ with_lanes r (take (lane + 1) paths)
next_attached law r mid paths path lane h e f = (λ i. with_place (e i) (stimulus_place lane) Read (sym f i)) ∙ sym (with_lanes_more law r paths lane h)

-- the next lane's place is free
pub next_free : OtherPlacesStay → (r : Register) (paths : List (List ℕ)) (lane : ℕ) → lane ≤ length paths → (with_lanes r (take lane paths)).attached (stimulus_place lane) ≡ r.attached (stimulus_place lane)
next_free law r paths lane h = law r (stimulus_place 0) Read (take lane paths) (stimulus_place lane) (inr (omega (arith, length-take-le lane paths h)))

-- a live lane is one of the lanes
pub live_within : (ks : List Known) (i : ℕ) → (lane_at ks i).live ≡ true → i < length ks
live_within ks i live = elim (cases_lt i (length ks)) [
  | inl h ↦ h
  | inr past ↦ absurd (false≢true (sym (ap (λ (k : Known). k.live) (get_or_past ks i ended past)) ∙ live))
]

pub lanes_attached : EachPlaceIsAttached → (r : Register) (paths : List (List ℕ)) (ks : List Known) → length ks ≤ length paths → AreAttached (with_lanes r paths) ks
lanes_attached law r paths ks h = record {
  each = λ i live.
      let below : i < length ks = live_within ks i live in
      subst (λ (o : Option Attachment). IsSomeAnd o (λ a. a.way ≡ Read)) (sym (law r (stimulus_place 0) Read paths i (omega arith))) refl;
}

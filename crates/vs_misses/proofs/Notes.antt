-- What is found in all lanes behind a round.
use Rattle.std.proofs.Common.{◌≡◌, ℕ, ◌<◌, ◌≤◌, Bool, true, false, not, ◌&&◌, ◌||◌, List, length, Option, is_some, All, sym, ap, ◌∙◌, subst, inl, inr, arith}
use Rattle.std.specs.List.{list_any, list_all}
use Rattle.std.proofs.lemmas.Bool.{cases_Bool}
use Rattle.std.proofs.lemmas.List.{length-map}
use Rattle.vs_net.specs.Network.{State}
use Rattle.vs_program.specs.Program.{spans}
use Rattle.vs_stim.specs.Known.{Known}
use Rattle.vs_feed.specs.Lanes.{lane_at}
use Rattle.vs_misses.specs.declared.row.Row.{Row}
use Rattle.vs_misses.specs.Missed.{first_miss, Found, on_line, line_of, found_now, found_behind}
use Rattle.vs_misses.specs.Watch.{Watch, found_at, ArePlaces, AllFit, named, columns_at, HasColumns}
use Rattle.vs_misses.specs.Rows.{spans_of, places_of, row_unmet, IsComparable}
use Rattle.vs_misses.proofs.Columns.{columns_of_lane}
use Rattle.vs_misses.proofs.Finds.{unmet_is_found, all_comparable, stays, first_found, found_live, missed_more}

-- in each lane whether an output isn't as it is wanted, whether something was found before, and whether it is looked at
pub record AreCompared (rows : List Row) (ks : List Known) (state : ℕ → State) (lanes : ℕ) (unmet missed looked : ℕ → Bool) (olds : List (Option Found)) : Type 0 where
  pub fit : AllFit (spans_of rows) ks
  pub places : (i : ℕ) → ArePlaces (places_of rows) i (columns_at (named ks) i)
  pub width : length ks ≤ lanes
  pub unmet_is : (i : ℕ) → i < lanes → unmet i ≡ list_any (row_unmet (lane_at ks i) (state i) i) rows
  pub missed_is : (i : ℕ) → i < length ks → missed i ≡ is_some (found_at olds i)
  pub looked_is : (i : ℕ) → i < lanes → looked i ≡ (unmet i && not (missed i))

-- the places of a lane's columns
pub lane_places : (rows : List Row) (ks : List Known) → ((i : ℕ) → ArePlaces (places_of rows) i (columns_at (named ks) i)) → (i : ℕ) → i < length ks → ArePlaces (places_of rows) i (lane_at ks i).columns.expected
lane_places rows ks places i h = subst (ArePlaces (places_of rows) i) (columns_of_lane ks i h) (places i)

-- what is missed now in this lane
abbrev pub now_in : List Row → List Known → (ℕ → State) → ℕ → Option Found
now_in rows ks state i = found_now (spans_of rows) (lane_at ks i) (state i)

unmet_now : (rows : List Row) (ks : List Known) (state : ℕ → State) (lanes : ℕ) (unmet missed looked : ℕ → Bool) (olds : List (Option Found))
    → AreCompared rows ks state lanes unmet missed looked olds → (i : ℕ) → i < length ks → unmet i ≡ is_some (now_in rows ks state i)
unmet_now rows ks state lanes unmet missed looked olds r i h =
    r.unmet_is i (omega (arith, r.width)) ∙ unmet_is_found rows (lane_at ks i) (state i) i (lane_places rows ks r.places i h) (r.fit.each i h)

-- what is found behind a round in which lanes were looked at
pub noted : (rows : List Row) (ks : List Known) (state : ℕ → State) (lanes : ℕ) (unmet missed looked : ℕ → Bool) (olds news : List (Option Found))
    → AreCompared rows ks state lanes unmet missed looked olds
    → ((i : ℕ) → i < length ks → looked i ≡ true → found_at news i ≡ on_line (line_of (lane_at ks i)) (first_miss (spans_of rows) (state i) 0 (lane_at ks i).columns.expected (lane_at ks i).wanted))
    → ((i : ℕ) → i < length ks → looked i ≡ false → found_at news i ≡ found_at olds i)
    → (i : ℕ) → i < length ks → found_at news i ≡ found_behind (found_at olds i) (now_in rows ks state i)
noted rows ks state lanes unmet missed looked olds news r here others i h =
    let in_lanes : i < lanes = omega (arith, r.width) in
    let now = unmet_now rows ks state lanes unmet missed looked olds r i h in
    let is = r.looked_is i in_lanes in
    elim (cases_Bool (looked i)) as (λ _. found_at news i ≡ found_behind (found_at olds i) (now_in rows ks state i)) [
      | inl look ↦
          here i h look
          ∙ found_live (spans_of rows) (lane_at ks i) (state i) (unmet i) (missed i) now (sym is ∙ look)
          ∙ first_found (found_at olds i) (now_in rows ks state i) (unmet i) (missed i) (r.missed_is i h) (sym is ∙ look)
      | inr never ↦ others i h never ∙ stays (found_at olds i) (now_in rows ks state i) (unmet i) (missed i) now (r.missed_is i h) (sym is ∙ never)
    ]

-- no lane was looked at
pub noted_none : (rows : List Row) (ks : List Known) (state : ℕ → State) (lanes : ℕ) (unmet missed looked : ℕ → Bool) (olds : List (Option Found))
    → AreCompared rows ks state lanes unmet missed looked olds → ((i : ℕ) → i < lanes → looked i ≡ false)
    → (i : ℕ) → i < length ks → found_at olds i ≡ found_behind (found_at olds i) (now_in rows ks state i)
noted_none rows ks state lanes unmet missed looked olds r none i h =
    let in_lanes : i < lanes = omega (arith, r.width) in
    stays (found_at olds i) (now_in rows ks state i) (unmet i) (missed i) (unmet_now rows ks state lanes unmet missed looked olds r i h) (r.missed_is i h) (sym (r.looked_is i in_lanes) ∙ none i in_lanes)

-- the lanes in which something was found behind the round
pub missed_now : (rows : List Row) (ks : List Known) (state : ℕ → State) (lanes : ℕ) (unmet missed looked behind : ℕ → Bool) (olds news : List (Option Found))
    → AreCompared rows ks state lanes unmet missed looked olds → ((i : ℕ) → i < lanes → behind i ≡ (missed i || looked i))
    → ((i : ℕ) → i < length ks → found_at news i ≡ found_behind (found_at olds i) (now_in rows ks state i))
    → (i : ℕ) → i < length ks → behind i ≡ is_some (found_at news i)
missed_now rows ks state lanes unmet missed looked behind olds news r is found i h =
    let in_lanes : i < lanes = omega (arith, r.width) in
    is i in_lanes
    ∙ ap (λ (b : Bool). missed i || b) (r.looked_is i in_lanes)
    ∙ missed_more (found_at olds i) (now_in rows ks state i) (unmet i) (missed i) (unmet_now rows ks state lanes unmet missed looked olds r i h) (r.missed_is i h)
    ∙ sym (ap (λ (o : Option Found). is_some o) (found i h))

-- ---- what is asked of rows that are compared

-- the rows are of spans among so many bits that fit the stimuli, they have the places of their columns, and something may be found in each lane
pub record IsAsked (bits : ℕ) (rows : List Row) (found : List (Option Found)) (ks : List Known) : Type 0 where
  pub inside : list_all (spans bits) (spans_of rows) ≡ true
  pub fit : AllFit (spans_of rows) ks
  pub places : (i : ℕ) → ArePlaces (places_of rows) i (columns_at (named ks) i)
  pub long : length found ≡ length ks

pub asked : (bits : ℕ) (rows : List Row) (found : List (Option Found)) (w : Watch) (ks : List Known) → record { outputs = spans_of rows; places = places_of rows; found = found } ≡ w
    → list_all (spans bits) w.outputs ≡ true → HasColumns w (named ks) → AllFit w.outputs ks → IsAsked bits rows found ks
asked bits rows found w ks e inside columns fit =
    let has : HasColumns (record { outputs = spans_of rows; places = places_of rows; found = found }) (named ks) = subst (λ (x : Watch). HasColumns x (named ks)) (sym e) columns in
    record {
      inside = subst (λ (x : Watch). list_all (spans bits) x.outputs ≡ true) (sym e) inside;
      fit = subst (λ (x : Watch). AllFit x.outputs ks) (sym e) fit;
      places = has.places;
      long = has.lanes ∙ length-map ks (λ (k : Known). k.columns.expected);
    }

pub asked_comparable : (bits : ℕ) (rows : List Row) (found : List (Option Found)) (ks : List Known) → IsAsked bits rows found ks → All (IsComparable bits ks) rows
asked_comparable bits rows found ks a = all_comparable bits rows ks a.inside a.fit (lane_places rows ks a.places)

-- a watch over rows has the columns whose places they have
pub has_columns : (rows : List Row) (found : List (Option Found)) (ks : List Known) → ((i : ℕ) → ArePlaces (places_of rows) i (columns_at (named ks) i)) → length found ≡ length ks
    → HasColumns (record { outputs = spans_of rows; places = places_of rows; found = found }) (named ks)
has_columns rows found ks places long = record { lanes = long ∙ sym (length-map ks (λ (k : Known). k.columns.expected)); places = places }

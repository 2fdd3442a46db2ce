-- What is found in a lane, by the outputs that aren't as they are wanted.
use Rattle.std.proofs.Common.{◌≡◌, ℕ, zero, suc, ◌+◌, ◌<◌, ◌≤◌, leb, Bool, true, false, not, ◌&&◌, ◌||◌, List, [], ◌∷◌, length, get_or, slice_get, Option, Some, None, is_some, All, refl, sym, ap, ap₂, ◌∙◌, subst, inl, inr, arith}
use Rattle.std.specs.List.{list_any, list_all}
use Rattle.std.proofs.lemmas.Bool.{cases_Bool, both_ways, and_parts, leb-true}
use Rattle.std.proofs.lemmas.List.{length-map, get_or-map}
use Rattle.std.proofs.lemmas.List.Folds.{list_any_at, list_any_none}
use Rattle.std.proofs.lemmas.Option.{slice_get_within, get_or_from_slice_get, slice_get-get_or, none-some, same_Some}
use Rattle.vs_four.specs.Logic.{BitList}
use Rattle.vs_net.specs.Network.{State}
use Rattle.vs_design.specs.Values.{count_from, read}
use Rattle.vs_program.specs.declared.compiled.Span.{Span}
use Rattle.vs_program.specs.Compiled.{span_bits}
use Rattle.vs_program.specs.Program.{spans}
use Rattle.vs_stim.specs.declared.input.Expected.{Expected}
use Rattle.vs_stim.specs.declared.wanted.Digit.{Digit}
use Rattle.vs_stim.specs.Wanted.{wanted_sizes}
use Rattle.vs_stim.specs.Wants.{expected_lengths, IsExpectedOf}
use Rattle.vs_stim.specs.Known.{Known}
use Rattle.vs_feed.specs.Lanes.{lane_at}
use Rattle.vs_misses.specs.declared.row.Row.{Row}
use Rattle.vs_misses.specs.Missed.{are_met, value_of, Miss, first_miss, Found, on_line, line_of, found_now, found_behind}
use Rattle.vs_misses.specs.Watch.{place_in, span_lengths, ArePlaces, Fits, AllFit}
use Rattle.vs_misses.specs.Rows.{spans_of, places_of, any_bits, is_unmet, row_unmet, HaveDigits, IsComparable}
use Rattle.vs_misses.specs.Laws.{MeetsAll, AllMet}
use Rattle.vs_misses.proofs.Meets.{are_met_any, meets_from, met_from}
use Rattle.vs_misses.proofs.Firsts.{none_is_missed, first_is_missed}
use Rattle.vs_misses.proofs.Packs.{wanted_ended, wanted_unnamed, wanted_named}
use Rattle.vs_misses.proofs.Columns.{has_row, place_of_row}

-- ---- the bits of a span

length_count : (f n : ℕ) → length (count_from f n) ≡ n
length_count f zero = refl
length_count f (suc n) = ap suc (length_count (suc f) n)

pub length_read : (s : State) (span : Span) → length (read s (span_bits span)) ≡ span.length
length_read s span = length-map (span_bits span) s ∙ length_count span.first span.length

bit_from : (s : State) (f n k : ℕ) → k < n → slice_get (read s (count_from f n)) k ≡ Some (s (f + k))
bit_from s f zero k h = absurd (let never : ⊥ = omega arith in never)
bit_from s f (suc n) zero h = ap (λ b. Some (s b)) (omega arith)
bit_from s f (suc n) (suc k) h = bit_from s (suc f) n k (omega arith) ∙ ap (λ b. Some (s b)) (omega arith)

pub read_at : (s : State) (span : Span) (k : ℕ) → k < span.length → slice_get (read s (span_bits span)) k ≡ Some (s (span.first + k))
read_at s span k h = bit_from s span.first span.length k h

-- any bits are met
pub unmet_any : (span : Span) (s : State) → not (are_met (any_bits span.length) (read s (span_bits span))) ≡ false
unmet_any span s = ap not (are_met_any span.length (read s (span_bits span)) (length_read s span))

pub unmet_ended : (span : Span) (places : List (Option ℕ)) (k : Known) (s : State) (i : ℕ) → k.live ≡ false → is_unmet span places k s i ≡ false
unmet_ended span places k s i h = ap (λ (ds : List Digit). not (are_met ds (read s (span_bits span)))) (wanted_ended span.length places k i h) ∙ unmet_any span s

pub unmet_unnamed : (span : Span) (places : List (Option ℕ)) (k : Known) (s : State) (i : ℕ) → place_in places i ≡ None → is_unmet span places k s i ≡ false
unmet_unnamed span places k s i h = ap (λ (ds : List Digit). not (are_met ds (read s (span_bits span)))) (wanted_unnamed span.length places k i h) ∙ unmet_any span s

-- ---- rows and columns

pub value_of_row : (rows : List Row) (s : State) (e : Expected) (r : Row) → slice_get rows e.output ≡ Some r → value_of (spans_of rows) s e ≡ read s (span_bits r.span)
value_of_row rows s e r at = ap (λ (o : Option Span). elim o as (λ _. BitList) [ None ↦ [] | Some x ↦ read s (span_bits x) ]) (span_at rows e.output r at)
  where
    span_at : (rows : List Row) (n : ℕ) (r : Row) → slice_get rows n ≡ Some r → slice_get (spans_of rows) n ≡ Some r.span
    span_at [] n r at = absurd (none-some r at)
    span_at (x ∷ rows) zero r at = ap (λ (y : Row). Some y.span) (same_Some x r at)
    span_at (x ∷ rows) (suc n) r at = span_at rows n r at

-- as many digits are wanted as there are columns
pub wanted_long : (k : Known) → wanted_sizes k.wanted ≡ expected_lengths k.columns.expected → length k.wanted ≡ length k.columns.expected
wanted_long k h = sym (length-map k.wanted (λ (w : List Digit). length w)) ∙ ap (λ (xs : List ℕ). length xs) h ∙ length-map k.columns.expected (λ (e : Expected). e.length)

pub digits_there : (k : Known) (c : ℕ) (e : Expected) → wanted_sizes k.wanted ≡ expected_lengths k.columns.expected → slice_get k.columns.expected c ≡ Some e
    → slice_get k.wanted c ≡ Some (get_or k.wanted c [])
digits_there k c e sizes at = slice_get-get_or k.wanted c [] (omega (arith, slice_get_within k.columns.expected c e at, wanted_long k sizes))

-- so many digits as the column has
pub digits_size : (k : Known) (c : ℕ) (e : Expected) → wanted_sizes k.wanted ≡ expected_lengths k.columns.expected → slice_get k.columns.expected c ≡ Some e → length (get_or k.wanted c []) ≡ e.length
digits_size k c e sizes at =
    let within = slice_get_within k.columns.expected c e at in
    sym (get_or-map (λ (w : List Digit). length w) k.wanted c [] 0 (omega (arith, within, wanted_long k sizes)))
    ∙ ap (λ (xs : List ℕ). get_or xs c 0) sizes
    ∙ get_or-map (λ (x : Expected). x.length) k.columns.expected c e 0 within
    ∙ ap (λ (x : Expected). x.length) (get_or_from_slice_get k.columns.expected c e e at)

-- a row whose output no column finds unmet
row_met : (rows : List Row) (k : Known) (s : State) (i output : ℕ) (r : Row) → k.live ≡ true → slice_get rows output ≡ Some r → ArePlaces (places_of rows) i k.columns.expected
    → Fits (spans_of rows) k → AllMet (spans_of rows) s k.columns.expected k.wanted → row_unmet k s i r ≡ false
row_met rows k s i output r live at places fits met = go (place_in r.places.items i) refl
  where
    go : (o : Option ℕ) → place_in r.places.items i ≡ o → row_unmet k s i r ≡ false
    go None e = unmet_unnamed r.span r.places.items k s i e
    go (Some c) e =
        let column = places.only output c (place_of_row rows output i r at ∙ e) in
        let of_row : slice_get rows column.0.output ≡ Some r = ap (slice_get rows) column.2 ∙ at in
        let digits = get_or k.wanted c [] in
        let meets : MeetsAll digits (value_of (spans_of rows) s column.0) = met c column.0 digits column.1 (digits_there k c column.0 fits.sizes column.1) in
        ap (λ (ds : List Digit). not (are_met ds (read s (span_bits r.span)))) (wanted_named r.span.length r.places.items k i c live e)
        ∙ ap (λ (bits : BitList). not (are_met digits bits)) (sym (value_of_row rows s column.0 r of_row))
        ∙ ap not (met_from digits (value_of (spans_of rows) s column.0) meets)

-- the row of a column that isn't met
row_not_met : (rows : List Row) (k : Known) (s : State) (i c : ℕ) (e : Expected) (r : Row) (w : List Digit) → k.live ≡ true → ArePlaces (places_of rows) i k.columns.expected
    → slice_get k.columns.expected c ≡ Some e → slice_get k.wanted c ≡ Some w → slice_get rows e.output ≡ Some r → ¬ MeetsAll w (value_of (spans_of rows) s e) → row_unmet k s i r ≡ true
row_not_met rows k s i c e r w live places at wants of_row unmet =
    let place : place_in r.places.items i ≡ Some c = sym (place_of_row rows e.output i r of_row) ∙ places.each c e at in
    let never : are_met w (value_of (spans_of rows) s e) ≡ false = elim (cases_Bool (are_met w (value_of (spans_of rows) s e))) [
      | inl it_is ↦ absurd (unmet (meets_from w (value_of (spans_of rows) s e) it_is))
      | inr never ↦ never
    ] in
    ap (λ (ds : List Digit). not (are_met ds (read s (span_bits r.span)))) (wanted_named r.span.length r.places.items k i c live place ∙ get_or_from_slice_get k.wanted c w [] wants)
    ∙ ap (λ (bits : BitList). not (are_met w bits)) (sym (value_of_row rows s e r of_row))
    ∙ ap not never

pub some_row : (rows : List Row) (n : ℕ) → n < length rows → (r : Row) × (slice_get rows n ≡ Some r)
some_row [] n h = absurd (let never : ⊥ = omega arith in never)
some_row (x ∷ rows) zero h = (x, refl)
some_row (x ∷ rows) (suc n) h = some_row rows n (omega arith)

-- what a lane misses now, by whether it has a vector
found_none : (outputs : List Span) (k : Known) (s : State) → k.live ≡ false → found_now outputs k s ≡ None
found_none outputs k s h = rw h refl

found_is : (outputs : List Span) (k : Known) (s : State) (o : Option Miss) → k.live ≡ true → first_miss outputs s 0 k.columns.expected k.wanted ≡ o → found_now outputs k s ≡ on_line (line_of k) o
found_is outputs k s o live e = rw live (ap (on_line (line_of k)) e)

-- some output isn't as it is wanted exactly where a lane misses something
pub unmet_is_found : (rows : List Row) (k : Known) (s : State) (i : ℕ) → ArePlaces (places_of rows) i k.columns.expected → Fits (spans_of rows) k
    → list_any (row_unmet k s i) rows ≡ is_some (found_now (spans_of rows) k s)
unmet_is_found rows k s i places fits = elim (cases_Bool k.live) [
  | inl live ↦ going live (first_miss (spans_of rows) s 0 k.columns.expected k.wanted) refl
  | inr never ↦ list_any_none (row_unmet k s i) rows (λ n r within. unmet_ended (get_or rows n r).span (get_or rows n r).places.items k s i never) ∙ sym (ap is_some (found_none (spans_of rows) k s never))
]
  where
    going : k.live ≡ true → (o : Option Miss) → first_miss (spans_of rows) s 0 k.columns.expected k.wanted ≡ o → list_any (row_unmet k s i) rows ≡ is_some (found_now (spans_of rows) k s)
    going live None e =
        let met : AllMet (spans_of rows) s k.columns.expected k.wanted = (none_is_missed (spans_of rows) s 0 k.columns.expected k.wanted).0 e in
        list_any_none (row_unmet k s i) rows (λ n r within. row_met rows k s i n (get_or rows n r) live (slice_get-get_or rows n r within) places fits met)
        ∙ sym (ap is_some (found_is (spans_of rows) k s None live e))
    going live (Some m) e =
        let first = first_is_missed (spans_of rows) s k.columns.expected k.wanted m e in
        let within = has_row rows k.columns.expected m.output first.column fits.columns first.column_is in
        let row = some_row rows first.column.output within in
        let unmet : ¬ MeetsAll m.wanted (value_of (spans_of rows) s first.column) = subst (λ (bits : BitList). ¬ MeetsAll m.wanted bits) first.got_is first.unmet in
        let here = row_not_met rows k s i m.output first.column row.0 m.wanted live places first.column_is first.wanted_is row.1 unmet in
        list_any_at (row_unmet k s i) rows first.column.output row.0 within (ap (row_unmet k s i) (get_or_from_slice_get rows first.column.output row.0 row.0 row.1) ∙ here)
        ∙ sym (ap is_some (found_is (spans_of rows) k s (Some m) live e))

-- ---- what is found behind a round

-- a lane in which nothing new was missed
pub stays : (old now : Option Found) (unmet missed : Bool) → unmet ≡ is_some now → missed ≡ is_some old → (unmet && not missed) ≡ false → old ≡ found_behind old now
stays (Some f) now unmet missed e d h = refl
stays None None unmet missed e d h = refl
stays None (Some f) unmet missed e d h = absurd (both_ways (unmet && not missed) h (ap₂ (λ (a b : Bool). a && not b) e d))

-- a lane in which something was missed for the first time
pub first_found : (old now : Option Found) (unmet missed : Bool) → missed ≡ is_some old → (unmet && not missed) ≡ true → now ≡ found_behind old now
first_found None now unmet missed d h = refl
first_found (Some f) now unmet missed d h =
    let parts = and_parts unmet (not missed) h in
    absurd (both_ways (not missed) (ap not d) parts.1)

-- the lane has a vector then
pub found_live : (outputs : List Span) (k : Known) (s : State) (unmet missed : Bool) → unmet ≡ is_some (found_now outputs k s) → (unmet && not missed) ≡ true
    → on_line (line_of k) (first_miss outputs s 0 k.columns.expected k.wanted) ≡ found_now outputs k s
found_live outputs k s unmet missed e h = elim (cases_Bool k.live) [
  | inl live ↦ sym (found_is outputs k s (first_miss outputs s 0 k.columns.expected k.wanted) live refl)
  | inr never ↦
      let parts = and_parts unmet (not missed) h in
      let none : is_some (found_now outputs k s) ≡ false = ap is_some (found_none outputs k s never) in
      absurd (both_ways unmet (e ∙ none) parts.0)
]

-- the word has the lanes in which something was found
pub missed_more : (old now : Option Found) (unmet missed : Bool) → unmet ≡ is_some now → missed ≡ is_some old → (missed || (unmet && not missed)) ≡ is_some (found_behind old now)
missed_more (Some f) now unmet missed e d = ap (λ b. b || (unmet && not b)) d
missed_more None None unmet missed e d = ap₂ (λ a b. b || (a && not b)) e d
missed_more None (Some f) unmet missed e d = ap₂ (λ a b. b || (a && not b)) e d

-- ---- what is needed of rows

-- a span among these bits
pub record IsInside (bits : ℕ) (span : Span) : Type 0 where
  pub some : 1 ≤ span.length
  pub short : span.length ≤ 64
  pub within : span.first + span.length ≤ bits

is_inside : (bits : ℕ) (span : Span) → spans bits span ≡ true → IsInside bits span
is_inside bits span h =
    let two = and_parts (leb 1 span.length && leb span.length 64) (leb (span.first + span.length) bits) h in
    let one = and_parts (leb 1 span.length) (leb span.length 64) two.0 in
    record { some = leb-true 1 span.length one.0; short = leb-true span.length 64 one.1; within = leb-true (span.first + span.length) bits two.1 }

all_inside : (bits : ℕ) (rows : List Row) (n : ℕ) (r : Row) → list_all (spans bits) (spans_of rows) ≡ true → slice_get rows n ≡ Some r → IsInside bits r.span
all_inside bits [] n r h at = absurd (none-some r at)
all_inside bits (x ∷ rows) zero r h at =
    subst (λ (y : Row). IsInside bits y.span) (same_Some x r at) (is_inside bits x.span (and_parts (spans bits x.span) (list_all (spans bits) (spans_of rows)) h).0)
all_inside bits (x ∷ rows) (suc n) r h at = all_inside bits rows n r (and_parts (spans bits x.span) (list_all (spans bits) (spans_of rows)) h).1 at

pub row_inside : (bits : ℕ) (rows : List Row) (n : ℕ) (r : Row) → list_all (spans bits) (spans_of rows) ≡ true → slice_get rows n ≡ Some r → IsInside bits r.span
row_inside bits rows n r h at = all_inside bits rows n r h at

-- the column of a lane has its output's length
pub column_size : (rows : List Row) (k : Known) (c : ℕ) (e : Expected) (r : Row) → Fits (spans_of rows) k → slice_get k.columns.expected c ≡ Some e → slice_get rows e.output ≡ Some r → e.length ≡ r.span.length
column_size rows k c e r fits at of_row =
    let within = slice_get_within k.columns.expected c e at in
    let of : IsExpectedOf (span_lengths (spans_of rows)) e = subst (IsExpectedOf (span_lengths (spans_of rows))) (get_or_from_slice_get k.columns.expected c e e at) (fits.columns c e within) in
    let there = slice_get_within rows e.output r of_row in
    sym of.size
    ∙ get_or-map (λ (s : Span). s.length) (spans_of rows) e.output r.span 0 (omega (arith, there, length-map rows (λ (x : Row). x.span)))
    ∙ ap (λ (s : Span). s.length) (get_or-map (λ (x : Row). x.span) rows e.output r r.span there)
    ∙ ap (λ (x : Row). x.span.length) (get_or_from_slice_get rows e.output r r of_row)

-- the columns of a row's output have as many digits as it has bits
pub have_digits : (rows : List Row) (ks : List Known) (n : ℕ) (r : Row) → slice_get rows n ≡ Some r → AllFit (spans_of rows) ks
    → ((i : ℕ) → i < length ks → ArePlaces (places_of rows) i (lane_at ks i).columns.expected) → HaveDigits r.span.length r.places.items ks
have_digits rows ks n r at fit places = record {
  within = λ i c h place.
      let column = (places i h).only n c (place_of_row rows n i r at ∙ place) in
      omega (arith, slice_get_within (lane_at ks i).columns.expected c column.0 column.1, wanted_long (lane_at ks i) (fit.each i h).sizes);
  size = λ i c h place.
      let k = lane_at ks i in
      let column = (places i h).only n c (place_of_row rows n i r at ∙ place) in
      let of_row : slice_get rows column.0.output ≡ Some r = ap (slice_get rows) column.2 ∙ at in
      digits_size k c column.0 (fit.each i h).sizes column.1 ∙ column_size rows k c column.0 r (fit.each i h) column.1 of_row;
}

pub all_comparable : (bits : ℕ) (rows : List Row) (ks : List Known) → list_all (spans bits) (spans_of rows) ≡ true → AllFit (spans_of rows) ks
    → ((i : ℕ) → i < length ks → ArePlaces (places_of rows) i (lane_at ks i).columns.expected) → All (IsComparable bits ks) rows
all_comparable bits rows ks inside fit places = λ n d h.
    let r = get_or rows n d in
    let at : slice_get rows n ≡ Some r = slice_get-get_or rows n d h in
    let in_bits = row_inside bits rows n r inside at in
    record { some = in_bits.some; short = in_bits.short; inside = in_bits.within; digits = have_digits rows ks n r at fit places }

-- The places of columns in rows.
use Rattle.std.proofs.Common.{◌≡◌, ◌≢◌, ℕ, zero, suc, ◌+◌, ◌<◌, ◌≤◌, Bool, true, false, not, nat_eq, List, [], ◌∷◌, length, get_or, set, map, slice_get, Option, Some, None, All, refl, sym, ap, ap₂, ◌∙◌, subst, inl, inr, arith}
use Rattle.std.specs.List.{range_with_len, IsDistinct}
use Rattle.std.specs.Cmp.{nat_eq_equiv}
use Rattle.std.specs.Set.{is_member}
use Rattle.std.proofs.lemmas.Bool.{and_parts, not-true, both_ways, cases_eq, cases_lt, eq-eqb, ne_eqb, eqb-true}
use Rattle.std.proofs.lemmas.List.{length-map, length-set, map-set, get_or-map, get_or-set_same, get_or-set_other, get_or_past, set-get_or}
use Rattle.std.proofs.lemmas.List.Elements.{All-head, All-tail, All-set, All-weaker}
use Rattle.std.proofs.lemmas.List.Folds.{list_any_at, Any-from_list_any}
use Rattle.std.proofs.lemmas.List.FromFn.{length-range_with_len, get_or-range_with_len}
use Rattle.std.proofs.lemmas.Map.Keys.{IsDistinct-from_apart}
use Rattle.std.proofs.lemmas.Map.Made.{length-le_from_is_member}
use Rattle.std.proofs.lemmas.Option.{slice_get_within, get_or_from_slice_get, same_Some, none-some}
use Rattle.vs_program.specs.declared.compiled.Span.{Span}
use Rattle.vs_stim.specs.declared.input.Expected.{Expected}
use Rattle.vs_stim.specs.Header.{is_expected}
use Rattle.vs_stim.specs.Wants.{IsExpectedOf, is_each_once}
use Rattle.vs_stim.specs.Known.{Known}
use Rattle.vs_feed.specs.Lanes.{ended, lane_at}
use Rattle.vs_misses.specs.declared.row.Row.{Row}
use Rattle.vs_misses.specs.Watch.{place_in, place_of, span_lengths, ArePlaces, AllFit, named, columns_at}
use Rattle.vs_misses.specs.Rows.{spans_of, places_of, HasLane, IsRow, IsEmptyRow}

-- ---- columns of different outputs

-- a column that stands behind another is of another output
other_behind : (n : ℕ) (es : List Expected) (c : ℕ) (f : Expected) → is_expected n es ≡ false → slice_get es c ≡ Some f → f.output ≢ n
other_behind n es c f none at e =
    let within = slice_get_within es c f at in
    let test : (Expected → Bool) = λ x. nat_eq x.output n in
    both_ways (is_expected n es) none
    (list_any_at test es c f within (ap test (get_or_from_slice_get es c f f at) ∙ eq-eqb f.output n e))

pub others_apart : (es : List Expected) (b c : ℕ) (e f : Expected) → is_each_once es ≡ true → b < c → slice_get es b ≡ Some e → slice_get es c ≡ Some f → f.output ≢ e.output
others_apart [] b c e f once below h l = absurd (none-some e h)
others_apart (x ∷ es) b zero e f once below h l = absurd (let never : ⊥ = omega arith in never)
others_apart (x ∷ es) zero (suc c) e f once below h l =
    let parts = and_parts (not (is_expected x.output es)) (is_each_once es) once in
    let first : x ≡ e = same_Some x e h in
    subst (λ (y : Expected). f.output ≢ y.output) first (other_behind x.output es c f (not-true (is_expected x.output es) parts.0) l)
others_apart (x ∷ es) (suc b) (suc c) e f once below h l =
    let parts = and_parts (not (is_expected x.output es)) (is_each_once es) once in
    others_apart es b c e f parts.1 (omega arith) h l

-- ---- a column that gets its place

-- a row with a place more
pub record IsSet (old new : Row) (lane place : ℕ) : Type 0 where
  pub span : new.span ≡ old.span
  pub places : new.places.items ≡ set old.places.items lane (Some place)
  pub is_named : new.is_named ≡ true

-- the rows have the places of the first columns, so many
pub record AreSet (olds : List Row) (lane : ℕ) (es : List Expected) (count : ℕ) (rows : List Row) : Type 0 where
  pub long : length rows ≡ length olds
  pub spans : spans_of rows ≡ spans_of olds
  pub room : All (HasLane lane) rows
  pub kept : (lanes : ℕ) → All (IsRow lanes) olds → All (IsRow lanes) rows
  pub each : (c : ℕ) (e : Expected) → c < count → slice_get es c ≡ Some e → place_of (places_of rows) e.output lane ≡ Some c
  pub only : (output c : ℕ) → place_of (places_of rows) output lane ≡ Some c → (e : Expected) × (slice_get es c ≡ Some e) × (e.output ≡ output)
  pub others : (output i : ℕ) → i ≢ lane → place_of (places_of rows) output i ≡ place_of (places_of olds) output i

pub none_set : (olds : List Row) (lane : ℕ) (es : List Expected) → All (HasLane lane) olds → ((output : ℕ) → place_of (places_of olds) output lane ≡ None) → AreSet olds lane es 0 olds
none_set olds lane es room none = record {
  long = refl;
  spans = refl;
  room = room;
  kept = λ lanes h. h;
  each = λ c e below at. absurd (let never : ⊥ = omega arith in never);
  only = λ output c at. absurd (none-some c (sym (none output) ∙ at));
  others = λ output i ne. refl;
}

-- the places of a row that was written
place_set_same : (rows : List Row) (output : ℕ) (new : Row) (i : ℕ) → output < length rows → place_of (places_of (set rows output new)) output i ≡ place_in new.places.items i
place_set_same rows output new i within =
    let f = λ (r : Row). r.places.items in
    ap (λ (ps : List (List (Option ℕ))). place_in (get_or ps output []) i) (map-set f rows output new)
    ∙ ap (λ (p : List (Option ℕ)). place_in p i) (get_or-set_same (map f rows) output (f new) [] (omega (arith, length-map rows f)))

place_set_other : (rows : List Row) (output other : ℕ) (new : Row) (i : ℕ) → other ≢ output → place_of (places_of (set rows output new)) other i ≡ place_of (places_of rows) other i
place_set_other rows output other new i ne =
    let f = λ (r : Row). r.places.items in
    ap (λ (ps : List (List (Option ℕ))). place_in (get_or ps other []) i) (map-set f rows output new)
    ∙ ap (λ (p : List (Option ℕ)). place_in p i) (get_or-set_other (map f rows) output other (f new) [] ne)

-- the places of a row
pub place_of_row : (rows : List Row) (output i : ℕ) (r : Row) → slice_get rows output ≡ Some r → place_of (places_of rows) output i ≡ place_in r.places.items i
place_of_row rows output i r at =
    let f = λ (x : Row). x.places.items in
    ap (λ (p : List (Option ℕ)). place_in p i) (get_or-map f rows output r [] (slice_get_within rows output r at) ∙ ap f (get_or_from_slice_get rows output r r at))

pub set_more : (olds : List Row) (lane : ℕ) (es : List Expected) (count : ℕ) (rows : List Row) (column : Expected) (old new : Row)
    → is_each_once es ≡ true → slice_get es count ≡ Some column → slice_get rows column.output ≡ Some old → IsSet old new lane count
    → AreSet olds lane es count rows → AreSet olds lane es (count + 1) (set rows column.output new)
set_more olds lane es count rows column old new once at was is h =
    let output = column.output in
    let within : output < length rows = slice_get_within rows output old was in
    let there : get_or rows output old ≡ old = get_or_from_slice_get rows output old old was in
    let room : lane < length old.places.items = subst (HasLane lane) there (h.room output old within) in
    let here : place_of (places_of (set rows output new)) output lane ≡ Some count =
    place_set_same rows output new lane within ∙ ap (λ (p : List (Option ℕ)). place_in p lane) is.places ∙ get_or-set_same old.places.items lane (Some count) None room in
    let long_new : length new.places.items ≡ length old.places.items = ap (λ (p : List (Option ℕ)). length p) is.places ∙ length-set old.places.items lane (Some count) in
    record {
      long = length-set rows output new ∙ h.long;
      spans =
          map-set (λ (r : Row). r.span) rows output new
          ∙ ap (set (spans_of rows) output) (is.span ∙ sym (ap (λ (r : Row). r.span) there))
          ∙ same_span rows output old within
          ∙ h.spans;
      room = All-set (HasLane lane) rows output new (omega arith) h.room;
      kept = λ lanes all.
          let before = h.kept lanes all in
          let row : IsRow lanes old = subst (IsRow lanes) there (before output old within) in
          All-set (IsRow lanes) rows output new record { long = long_new ∙ row.long; unnamed = λ e. absurd (both_ways new.is_named e is.is_named) } before;
      each = λ c e below l. elim (cases_eq c count) as (λ _. place_of (places_of (set rows output new)) e.output lane ≡ Some c) [
        | inl same ↦
            let f : e ≡ column = same_Some e column (sym l ∙ ap (slice_get es) same ∙ at) in
            ap (λ (x : Expected). place_of (places_of (set rows output new)) x.output lane) f ∙ here ∙ ap Some (sym same)
        | inr ne ↦
            let apart : column.output ≢ e.output = others_apart es c count e column once (omega arith) l at in
            place_set_other rows output e.output new lane (λ same. apart (sym same)) ∙ h.each c e (omega arith) l
      ];
      only = λ other c l. elim (cases_eq other output) as (λ _. (e : Expected) × (slice_get es c ≡ Some e) × (e.output ≡ other)) [
        | inl same ↦
            let p : Some count ≡ Some c = sym here ∙ ap (λ (o : ℕ). place_of (places_of (set rows output new)) o lane) (sym same) ∙ l in
            (column, ap (slice_get es) (sym (same_Some count c p)) ∙ at, sym same)
        | inr ne ↦ h.only other c (sym (place_set_other rows output other new lane ne) ∙ l)
      ];
      others = λ other i ne. elim (cases_eq other output) as (λ _. place_of (places_of (set rows output new)) other i ≡ place_of (places_of olds) other i) [
        | inl same ↦
            ap (λ (o : ℕ). place_of (places_of (set rows output new)) o i) same
            ∙ place_set_same rows output new i within
            ∙ ap (λ (p : List (Option ℕ)). place_in p i) is.places
            ∙ get_or-set_other old.places.items lane i (Some count) None ne
            ∙ sym (place_of_row rows output i old was)
            ∙ h.others output i ne
            ∙ ap (λ (o : ℕ). place_of (places_of olds) o i) (sym same)
        | inr never ↦ place_set_other rows output other new i never ∙ h.others other i ne
      ];
    }
  where
    same_span : (rows : List Row) (output : ℕ) (old : Row) → output < length rows → set (spans_of rows) output (get_or rows output old).span ≡ spans_of rows
    same_span rows output old within =
        ap (set (spans_of rows) output) (sym (get_or-map (λ (r : Row). r.span) rows output old old.span within)) ∙ set-get_or (spans_of rows) output old.span

pub set_all : (olds : List Row) (lane : ℕ) (es : List Expected) (count : ℕ) (rows : List Row) → length es ≤ count → AreSet olds lane es count rows → ArePlaces (places_of rows) lane es
set_all olds lane es count rows all h = record {
  each = λ c e at. h.each c e (omega (arith, slice_get_within es c e at)) at;
  only = h.only;
}

-- the column's output has a row
pub has_row : (rows : List Row) (es : List Expected) (c : ℕ) (e : Expected) → All (IsExpectedOf (span_lengths (spans_of rows))) es → slice_get es c ≡ Some e → e.output < length rows
has_row rows es c e all at =
    let within = slice_get_within es c e at in
    let of : IsExpectedOf (span_lengths (spans_of rows)) e = subst (IsExpectedOf (span_lengths (spans_of rows))) (get_or_from_slice_get es c e e at) (all c e within) in
    omega (arith, of.known, length-map (spans_of rows) (λ (s : Span). s.length), length-map rows (λ (r : Row). r.span))

-- ---- there are no more columns than outputs

some_at : (es : List Expected) (c : ℕ) → c < length es → (e : Expected) × (slice_get es c ≡ Some e)
some_at [] c h = absurd (let never : ⊥ = omega arith in never)
some_at (x ∷ es) zero h = (x, refl)
some_at (x ∷ es) (suc c) h = some_at es c (omega arith)

output_at : (es : List Expected) (c d : ℕ) (e : Expected) → slice_get es c ≡ Some e → get_or (map (λ (x : Expected). x.output) es) c d ≡ e.output
output_at es c d e at =
    let f = λ (x : Expected). x.output in
    get_or-map f es c e d (slice_get_within es c e at) ∙ ap f (get_or_from_slice_get es c e e at)

pub few_columns : (n : ℕ) (es : List Expected) → is_each_once es ≡ true → ((c : ℕ) (e : Expected) → slice_get es c ≡ Some e → e.output < n) → length es ≤ n
few_columns n es once below =
    let outputs : List ℕ = map (λ (x : Expected). x.output) es in
    let long : length outputs ≡ length es = length-map es (λ (x : Expected). x.output) in
    let distinct : IsDistinct nat_eq outputs = IsDistinct-from_apart nat_eq outputs (λ i j d before within.
    let e = some_at es i (omega arith) in
    let f = some_at es j (omega arith) in
    ap₂ nat_eq (output_at es i d e.0 e.1) (output_at es j d f.0 f.1) ∙ ne_eqb e.0.output f.0.output (λ same. others_apart es i j e.0 f.0 once before e.1 f.1 (sym same))) in
    let members : (q : ℕ) → is_member nat_eq outputs q ≡ true → is_member nat_eq (range_with_len 0 n) q ≡ true = λ q h.
    let any = Any-from_list_any (nat_eq q) outputs h in
    let e = some_at es any.0 (omega (arith, any.2)) in
    let is : q ≡ e.0.output = eqb-true q any.1 any.4 ∙ sym any.3 ∙ output_at es any.0 any.1 e.0 e.1 in
    let in_range : q < n = omega (arith, below any.0 e.0 e.1) in
    list_any_at (nat_eq q) (range_with_len 0 n) q 0 (omega (arith, length-range_with_len 0 n))
    (ap (nat_eq q) (get_or-range_with_len 0 n q 0 in_range ∙ omega arith) ∙ eq-eqb q q refl) in
    omega (arith, length-le_from_is_member nat_eq_equiv outputs (range_with_len 0 n) distinct members, length-range_with_len 0 n, long)

pub few_of_rows : (rows : List Row) (es : List Expected) → All (IsExpectedOf (span_lengths (spans_of rows))) es → is_each_once es ≡ true → length es ≤ length rows
few_of_rows rows es all once = few_columns (length rows) es once (λ c e at. has_row rows es c e all at)

-- ---- the rows of all lanes

pub empty_rows : (lanes : ℕ) (rows : List Row) → All (IsEmptyRow lanes) rows → All (IsRow lanes) rows
empty_rows lanes rows h = All-weaker (IsEmptyRow lanes) (IsRow lanes) (λ r e. record { long = e.long; unnamed = λ u i. e.none i }) rows h

pub empty_places : (lanes : ℕ) (rows : List Row) → All (IsEmptyRow lanes) rows → (output i : ℕ) → place_of (places_of rows) output i ≡ None
empty_places lanes rows h output i = go rows output h
  where
    go : (xs : List Row) (output : ℕ) → All (IsEmptyRow lanes) xs → place_of (places_of xs) output i ≡ None
    go [] output all = refl
    go (r ∷ xs) zero all = (All-head (IsEmptyRow lanes) r xs all).none i
    go (r ∷ xs) (suc output) all = go xs output (All-tail (IsEmptyRow lanes) r xs all)

-- the columns of a lane
pub columns_of_lane : (ks : List Known) (i : ℕ) → i < length ks → columns_at (named ks) i ≡ (lane_at ks i).columns.expected
columns_of_lane ks i h = get_or-map (λ (k : Known). k.columns.expected) ks i ended [] h

-- the lanes before this one have the places of their columns, and the others have none
pub record AreNamed (ks : List Known) (count : ℕ) (spans : List Span) (rows : List Row) : Type 0 where
  pub spans_are : spans_of rows ≡ spans
  pub are_rows : All (IsRow (length ks)) rows
  pub done : (i : ℕ) → i < count → ArePlaces (places_of rows) i (columns_at (named ks) i)
  pub none : (output i : ℕ) → count ≤ i → place_of (places_of rows) output i ≡ None

pub named_none : (ks : List Known) (spans : List Span) (rows : List Row) → spans_of rows ≡ spans → All (IsEmptyRow (length ks)) rows → AreNamed ks 0 spans rows
named_none ks spans rows e h = record {
  spans_are = e;
  are_rows = empty_rows (length ks) rows h;
  done = λ i below. absurd (let never : ⊥ = omega arith in never);
  none = λ output i past. empty_places (length ks) rows h output i;
}

-- the places of another lane
places_kept : (olds news : List (List (Option ℕ))) (i : ℕ) (es : List Expected) → ((output : ℕ) → place_of news output i ≡ place_of olds output i) → ArePlaces olds i es → ArePlaces news i es
places_kept olds news i es same h = record {
  each = λ c e at. same e.output ∙ h.each c e at;
  only = λ output c at. h.only output c (sym (same output) ∙ at);
}

pub named_more : (ks : List Known) (count : ℕ) (spans : List Span) (olds news : List Row) → count < length ks → spans_of news ≡ spans_of olds
    → ((lanes : ℕ) → All (IsRow lanes) olds → All (IsRow lanes) news)
    → ArePlaces (places_of news) count (lane_at ks count).columns.expected
    → ((output i : ℕ) → i ≢ count → place_of (places_of news) output i ≡ place_of (places_of olds) output i)
    → AreNamed ks count spans olds → AreNamed ks (count + 1) spans news
named_more ks count spans olds news within e rows here others h = record {
  spans_are = e ∙ h.spans_are;
  are_rows = rows (length ks) h.are_rows;
  done = λ i below. elim (cases_eq i count) as (λ _. ArePlaces (places_of news) i (columns_at (named ks) i)) [
    | inl same ↦ subst (λ (n : ℕ). ArePlaces (places_of news) n (columns_at (named ks) n)) (sym same) (subst (ArePlaces (places_of news) count) (sym (columns_of_lane ks count within)) here)
    | inr ne ↦ places_kept (places_of olds) (places_of news) i (columns_at (named ks) i) (λ output. others output i ne) (h.done i (omega arith))
  ];
  none = λ output i past. others output i (λ same. let never : ⊥ = omega arith in never) ∙ h.none output i (omega arith);
}

pub named_all : (ks : List Known) (count : ℕ) (spans : List Span) (rows : List Row) → length ks ≤ count → AreNamed ks count spans rows → (i : ℕ) → ArePlaces (places_of rows) i (columns_at (named ks) i)
named_all ks count spans rows all h i = elim (cases_lt i count) [
  | inl within ↦ h.done i within
  | inr past ↦
      let empty : columns_at (named ks) i ≡ [] = get_or_past (named ks) i [] (omega (arith, length-map ks (λ (k : Known). k.columns.expected))) in
      record {
        each = λ c e at. absurd (none-some e (ap (λ (es : List Expected). slice_get es c) (sym empty) ∙ at));
        only = λ output c at. absurd (none-some c (sym (h.none output i past) ∙ at));
      }
]

-- what has to hold of rows that get the places of a lane's columns
pub record CanName (lane : ℕ) (es : List Expected) (rows : List Row) : Type 0 where
  pub room : All (HasLane lane) rows
  pub columns : All (IsExpectedOf (span_lengths (spans_of rows))) es
  pub once : is_each_once es ≡ true
  pub none : (output : ℕ) → place_of (places_of rows) output lane ≡ None

pub can_name : (ks : List Known) (lane : ℕ) (spans : List Span) (rows : List Row) (es : List Expected) → lane < length ks → AllFit spans ks → es ≡ (lane_at ks lane).columns.expected
    → AreNamed ks lane spans rows → CanName lane es rows
can_name ks lane spans rows es within fit same h =
    let fits = fit.each lane within in
    record {
      room = All-weaker (IsRow (length ks)) (HasLane lane) (λ r is. omega (arith, is.long, within)) rows h.are_rows;
      columns = subst (λ (ss : List Span). All (IsExpectedOf (span_lengths ss)) es) (sym h.spans_are) (subst (λ (xs : List Expected). All (IsExpectedOf (span_lengths spans)) xs) (sym same) fits.columns);
      once = ap is_each_once same ∙ fits.once;
      none = λ output. h.none output lane (omega arith);
    }

-- as many rows as spans
pub rows_long : (rows : List Row) (spans : List Span) → spans_of rows ≡ spans → length rows ≡ length spans
rows_long rows spans e = sym (length-map rows (λ (r : Row). r.span)) ∙ ap (λ (ss : List Span). length ss) e
